-- Which fields a record of each kind has: document 01, 'A plan file comes in'. These are definitions.
use Rattle.std.specs.Prelude.{◌&&◌, ◌||◌, ℕ, leb, eqb}
use Rattle.plan_format.specs.declared.Fields.{Fields}

-- By the kind's number; the sentences are 01's, and 02's (P1) for aggregates
abbrev pub fields_of : ℕ → Fields
fields_of k = record {
  -- 'Joins have two children'; '32-39 joins: right key columns'; '14 join type'
  join = eqb k 11 || eqb k 12;
  -- '2 streams (1-64: source, repartition)'
  streams = eqb k 1 || eqb k 5;
  -- '3 marks: bit 0 preserve (sort, repartition, partial sort), bit 1 hash (repartition, else round robin), bit 2 unbounded (source)'
  preserve = eqb k 7 || (eqb k 5 || eqb k 14);
  hash = eqb k 5;
  unbounded = eqb k 1;
  -- '4-7 fetch, 4294967295 for none (kinds 6-10, 13, 14; local limit must have one); 8-11 skip (global limit)'
  fetch = (leb 6 k && leb k 10) || (eqb k 13 || eqb k 14);
  limit = eqb k 10;
  skip = eqb k 9;
  -- 'Sort, merge, partial sort, joins and hash repartition need a key'; the hash repartition is known by its mark; 02, P1: an aggregate has '1 to 8'
  needs_key = (eqb k 7 || eqb k 8) || (eqb k 14 || (eqb k 11 || (eqb k 12 || eqb k 15)));
  -- 'only sources, limits (an order note) and kind 13 may have keys or none'
  noted = eqb k 1 || ((eqb k 9 || eqb k 10) || eqb k 13);
  -- 'hash join and hash repartition keys have options 0', and so have group columns
  plain = eqb k 12 || eqb k 15;
  -- '13 width 1-32 (source, projection)', and an aggregate's, which is 'at least the key count'
  width = eqb k 1 || (eqb k 3 || eqb k 15);
  groups = eqb k 15;
  -- '14 .. distribution (kind 13: 0 none, 1 single, 2 keyed) or, in a partial sort, its met prefix'
  distribution = eqb k 13;
  prefix = eqb k 14;
  -- '32-35 a column set by bits (source: constants; kind 13: keyed columns); 32-63 projection: child columns'
  constants = eqb k 1;
  columns = eqb k 3;
}

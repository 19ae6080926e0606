-- One record of a node, field by field (01, 'A plan file comes in'). These are definitions.
use Rattle.std.specs.Prelude.{Bool, List, ℕ, Option}
use Rattle.row_order.specs.Iso.{Key}
use Rattle.plan.specs.declared.Kind.{Kind}

-- "Fields: 0 kind; 1 children; 2 streams; 3 marks: bit 0 preserve, bit 1 hash, bit 2 unbounded; 4-7 fetch; 8-11 skip; 12 key count;
-- 13 width; 14 join type, distribution or met prefix; 16-31 keys; 32-63" what the kind keeps there.
pub record NodeRecord : Type 0 where
  pub kind : Kind
  pub children : ℕ
  pub streams : ℕ
  pub preserve : Bool
  pub hash : Bool
  pub unbounded : Bool
  pub fetch : Option ℕ
  pub skip : ℕ
  pub keys : List Key
  pub width : ℕ
  pub role : ℕ
  pub tail : List ℕ

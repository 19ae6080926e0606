-- A narrower split: each row of each input stream is sent to one output stream, and an output stream is any interleaving of what the
-- inputs send to it. These are definitions.
use Rattle.std.specs.Prelude.{◌≡◌, [], List, map, ℕ, length, get_or}
use Rattle.row_order.specs.Lists.{All, Mixes, tab}
use Rattle.semantics.specs.Runs.{Streams, Each}

-- What each of several input streams sends to output stream j; parts: of each input, what it sends to each output
abbrev pub sent_to : List Streams → ℕ → Streams
sent_to parts j = map (λ p. get_or p j []) parts

-- Each input stream is split in n parts, in their order there; each output stream is any interleaving of the parts that are sent to it
pub record Sends (n : ℕ) (ins out : Streams) : Type 0 where
  pub parts : List Streams
  pub sizes : All (λ p. length p ≡ n) parts
  pub taken : Each Mixes parts ins
  pub mixed : Each Mixes (tab n (sent_to parts)) out

-- What is required of a node, and what goes to its children, as the code answers. These are definitions.
use Rattle.std.specs.Prelude.{◌≡◌, Bool, true, List, ℕ, zero, suc, ◌<◌, ◌≤◌, length, Option, Some, None}
use Rattle.row_order.specs.Iso.{Key}
use Rattle.row_order.specs.Lists.{All}
use Rattle.plan.specs.Op.{Op, sort_merge_join, hash_join}
use Rattle.plan.specs.WellFormed.{join_width, children_ok}
use Rattle.plan.specs.declared.JoinType.{JoinType}
use Rattle.plan_codec.specs.Decode.{decode}
use Rattle.record_fields.specs.Proper.{pairs_of, Proper}
use Rattle.semantics.specs.Facts.{Facts, at0, at1, facts_op}
use Rattle.semantics.specs.Properties.{remark}
use Rattle.key_lists.specs.declared.Keys.{Keys}
use Rattle.key_lists.specs.Keys.{keys_of, order_of, Real}
use Rattle.fact_slots.specs.Slots.{loaded}
use Rattle.asked_facts.specs.Asked.{told, FactRow}
use Rattle.join_facts.specs.Joining.{Sides}
use Rattle.walks.specs.SortPushdown as walk
use Rattle.push_requirements.specs.declared.ParentRequirements.{ParentRequirements}
use Rattle.push_requirements.specs.declared.ChildOrders.{ChildOrders}

-- The requirements that the struct says
abbrev pub required : ParentRequirements → walk.ParentRequirements
required r = record { order = order_of r.order; fetch = r.fetch; dist = r.distribution }

-- The struct r says the requirements P
pub record Requires (P : walk.ParentRequirements) (r : ParentRequirements) : Type 0 where
  pub is : required r ≡ P
  pub real : Real r.order

-- The order for child number i: the first, or the others
abbrev pub order_by : Option Keys → Option Keys → ℕ → List Key
order_by a b zero = order_of a
order_by a b (suc i) = order_of b

-- They are the orders g for m children
pub record Handed (m : ℕ) (g : ℕ → List Key) (a b : Option Keys) : Type 0 where
  pub is : (i : ℕ) → i < m → order_by a b i ≡ g i
  pub first : Real a
  pub rest : Real b

-- The answer says what goes to m children
abbrev pub HandsOn : ℕ → walk.Pushed → Option ChildOrders → Type 0
HandsOn m walk.stop None = Unit {0}
HandsOn m walk.stop (Some d) = ⊥
HandsOn m (walk.goes g) None = ⊥
HandsOn m (walk.goes g) (Some d) = Handed m g d.first d.rest

-- A join of type t with the record r and the facts own, over a and b
pub record JoinRows (t : JoinType) (r own a b : List ℕ) : Type 0 where
  pub proper : Proper r
  pub here : FactRow own
  pub first : FactRow a
  pub second : FactRow b
  pub sides : Sides t (loaded a) (loaded b)
  pub width : (told own).width ≡ join_width t (told a).width (told b).width

-- A node with the record r and the facts own over a and b, asked for an order
pub record Asked (r own a b : List ℕ) (parent : Keys) : Type 0 where
  pub proper : Proper r
  pub here : FactRow own
  pub first : FactRow a
  pub second : FactRow b
  pub few : parent.len ≤ 8
  pub inside : All (λ k. k.col < (told own).width) (keys_of parent)
  pub merged : (t : JoinType) → decode r ≡ sort_merge_join t (pairs_of r) → JoinRows t r own a b
  pub hashed : (t : JoinType) → decode r ≡ hash_join t (pairs_of r) → (told own).width ≡ join_width t (told a).width (told b).width

-- The node o, which is n but for the mark of a repartition: its facts F, those of its m children fs, the first of them L, the second R
pub record SeenNode (n o : Op) (fs : List Facts) (m : ℕ) (F L R : Facts) : Type 0 where
  pub mark : Bool → Bool
  pub like : o ≡ remark mark n
  pub facts : F ≡ facts_op n fs
  pub same : facts_op o fs ≡ facts_op n fs
  pub first : 0 < m → L ≡ at0 fs
  pub second : 1 < m → R ≡ at1 fs
  pub count : children_ok n m ≡ true
  pub long : length fs ≡ m

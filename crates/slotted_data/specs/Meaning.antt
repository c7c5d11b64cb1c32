-- What an analysis of a language says, in the words of the model.
--     Meaning D         what a bare node makes of the data of its children, the merge of two data, and a height
--     by_bare_nodes a   the model's analysis: what a node makes is what is left of it makes
--     IsMergeOf a       what is asked of the merge and the height
--     no_data           nothing is kept
--     unit_code         there is one value of the unit type alone
use Rattle.std.specs.Prelude.{◌≡◌, ◌≢◌, ◌<◌, refl}
use Rattle.std.specs.Coded.{Coded}
use base.Stored.{gnil}
use Rattle.slotted_outlines.specs.BareNodes.{bare}
use Rattle.slotted_model_analyses.specs.Analysis.{Analysis}

abbrev pub Meaning : Type 0 → Type 0
Meaning D = Analysis D

-- a node makes what is left of it makes, without its names and its children
abbrev pub by_bare_nodes : {D : Type 0} → Meaning D → Analysis D
by_bare_nodes a = record { make = λ d xs. a.make (bare d) xs; merge = a.merge; height = a.height }

-- the merge is commutative, associative and idempotent, and lowers the height of what it changes
pub record IsMergeOf {D : Type 0} (a : Meaning D) : Type 0 where
  pub commutative : (x y : D) → a.merge x y ≡ a.merge y x
  pub associative : (x y z : D) → a.merge (a.merge x y) z ≡ a.merge x (a.merge y z)
  pub idempotent : (x : D) → a.merge x x ≡ x
  pub lowers : (x y : D) → a.merge x y ≢ x → a.height (a.merge x y) < a.height x

-- nothing is kept
abbrev pub no_data : Meaning (Unit {0})
no_data = record { make = λ _ _. tt; merge = λ _ _. tt; height = λ _. 0 }

pub no_data_merges : IsMergeOf no_data
no_data_merges = record {
  commutative = λ _ _. refl;
  associative = λ _ _ _. refl;
  idempotent = λ _. refl;
  lowers = λ _ _ n. absurd (n refl);
}

abbrev pub unit_code : Coded (Unit {0})
unit_code = record { code = λ _. gnil; inj = λ _ _ _. refl }

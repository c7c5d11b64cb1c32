-- A graph that made no class and lost none since the data was at rest: the data is at rest as it is.
use Rattle.std.proofs.Common.{◌≡◌, length, drop, true, false, Bool, [], sym, ◌∙◌, refl, rules, subst, inl, inr, arith}
use Rattle.std.specs.Prelude.{◌⊎◌}
use Rattle.std.proofs.Math.Seq.{drop-length}
use Rattle.slotted_model.specs.Rest.{AtRest}
use Rattle.slotted_model_analyses.specs.Analysis.{IsMerge}
use Rattle.slotted_model_analyses.specs.DataPart.{starts}
use Rattle.slotted_classes.specs.Kept.{Kept, ListsDead, entries_of}
use Rattle.slotted_hashcons.specs.FiledRows.{Rows}
use Rattle.slotted_hashcons.specs.WellFiled.{state_in}
use Rattle.slotted_data.specs.Meaning.{Meaning, by_bare_nodes}
use Rattle.slotted_data.specs.Held.{Held, with_carried}
use Rattle.slotted_data.specs.Users.{EntersUsers}
use Rattle.slotted_data.specs.Burying.{Buries}
use Rattle.slotted_data.specs.Carrying.{Carried, HasCarriedAll, RestedBefore}
use Rattle.slotted_data.proofs.NewData.{new-none}
use Rattle.slotted_data.proofs.Entering.{users-none}
use Rattle.slotted_data.proofs.Buried.{buries-none}
use Rattle.slotted_data.proofs.GoingAlong.{since-low, since-tall}

bool-cases : (b : Bool) → (b ≡ true) ⊎ (b ≡ false)
bool-cases true = inl refl
bool-cases false = inr refl

module _ {D : Type 0} (meaning : Meaning D) (law : IsMerge D (by_bare_nodes meaning)) (l : Kept) (deaths : ListsDead l.deaths (entries_of l)) (q : Rows) (nothing : q.waiting ≡ []) (rest : AtRest (state_in l q))
    (k : Kept) (r : Rows) (d : Held D) (before : RestedBefore (by_bare_nodes meaning) k r l q d) (all : HasCarriedAll l d) where
  same : with_carried d (length l.deaths) ≡ d
  same = λ i. with_carried d (sym all.1 i)

  none-left : drop d.carried l.deaths ≡ []
  none-left = (λ i. drop (all.1 i) l.deaths) ∙ drop-length l.deaths

  pub still-carried : Carried (by_bare_nodes meaning) k r l q d d
  still-carried = subst (Carried (by_bare_nodes meaning) k r l q d) same (elim (bool-cases d.tall) [
    | inl tall ↦
        let entered : d.entered ≡ length l.classes = before.rested.all (search rules) ∙ (sym before.rested.count ∙ all.0) in
        since-tall meaning law l deaths q nothing rest k r d before d (new-none meaning l d) all.0 tall q d (record {
          entered_rows = q;
          entered_data = d;
          enters = subst (λ n. EntersUsers l d.entered n q q d d) entered (users-none l d.entered q d);
          entered = entered;
          buried_rows = q;
          buried_data = d;
          buries = subst (λ cs. Buries (by_bare_nodes meaning) l cs q q d d) (sym none-left) (buries-none (by_bare_nodes meaning) law l q d);
          rises = record {
            risen = d;
            turns = 0;
            fall = 0;
            nothing_waits = nothing;
            takes = record {
              filed = refl;
              same = record { count = refl; users = refl; entered = refl; carried = refl; tall = refl; counts = refl };
              taken = 0;
              fallen = 0;
              turns_is = refl;
              fall_is = refl;
              runs = λ x. starts;
              falls = λ x. omega arith;
            };
            few = omega arith;
            notes = refl;
          };
        })
    | inr short ↦ since-low meaning law l deaths q nothing rest k r d before d (new-none meaning l d) all.0 short
  ])

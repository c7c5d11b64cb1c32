-- What a graph has by its analysis, as callers see it, and what of it stands at rest.
--     Part N D                     the analysis, the limit of rounds, the data of each class, the classes that wait to be modified, and what
--                                  turns for data did
--     part_code codes              what tells such parts apart
--     part_in n m d                these of what is kept
--     part_by codes n m d          and as a graph's value has them
--     HasDatum found vs i x        x is the data of the class that i finds
--     AbsorbsMade a rows found vs  merging what a filed node makes into the data of its class changes nothing
--     OnlyFalls a ..               the data of each class has only gone down
--     NotesChanges ..              what was made, or whose data has changed, waits to be modified
use Rattle.std.specs.Prelude.{◌≡◌, ◌<◌, ℕ, List, length, Some, map, refl, Contains, slice_get}
use Rattle.std.specs.Coded.{Coded, code_by, coded×, coded_ℕ, coded_list}
use base.Stored.{Gv}
use Rattle.slotted_model.specs.Find.{Entry, find_class}
use Rattle.slotted_model.specs.State.{Row, child_classes}
use Rattle.slotted_model_analyses.specs.Analysis.{Analysis, Absorbs}
use Rattle.slotted_classes.specs.Counts.{Counts, counts_code}
use Rattle.slotted_data.specs.Held.{DataCounts, Held}
use Rattle.slotted_data.specs.Made.{data_in}

pub record Part (N D : Type 0) : Type 0 where
  pub analysis : N
  pub rounds : ℕ
  pub values : List D
  pub changed : List ℕ
  pub counts : DataCounts

abbrev data_counts_code : Coded DataCounts
data_counts_code = code_by (Counts × (ℕ × ℕ)) (coded× counts_code (coded× coded_ℕ coded_ℕ)) (λ c. (c.own, c.rebuilt)) (λ p. record { own = p.0; rebuilt = p.1 }) (λ _. refl)

-- what tells such parts apart, by what tells analyses and data apart
abbrev pub part_code : {N D : Type 0} → Coded N × Coded D → Coded (Part N D)
part_code {N} {D} codes =
    code_by (N × (ℕ × (List D × (List ℕ × DataCounts)))) (coded× codes.0 (coded× coded_ℕ (coded× (coded_list codes.1) (coded× (coded_list coded_ℕ) data_counts_code))))
    (λ p. (p.analysis, (p.rounds, (p.values, (p.changed, p.counts)))))
    (λ p. record { analysis = p.0; rounds = p.1.0; values = p.1.1.0; changed = p.1.1.1.0; counts = p.1.1.1.1 }) (λ _. refl)

abbrev pub part_in : {N D : Type 0} → N → ℕ → Held D → Part N D
part_in n m d = record { analysis = n; rounds = m; values = d.values; changed = d.changed; counts = d.counts }

-- and as a graph's value has it
abbrev pub part_by : {N D : Type 0} → Coded N × Coded D → N → ℕ → Held D → Gv
part_by codes n m d = (part_code codes).code (part_in n m d)

-- x is the data of the class that i finds
abbrev pub HasDatum : {D : Type 0} → List Entry → List D → ℕ → D → Type 0
HasDatum found values i x = slice_get values (find_class found i) ≡ Some x

-- whatever stands for classes that there are not, merging what a filed node makes changes nothing
abbrev pub AbsorbsMade : {D : Type 0} → Analysis D → List Row → List Entry → List D → Type 0
AbsorbsMade {D} a rows found values =
    (x : D) (r : Row) → Contains rows r →
    Absorbs a (data_in x values (find_class found r.source)) (a.make r.shape (map (data_in x values) (child_classes r.shape.args)))

-- what a class has now absorbs what it had
abbrev pub OnlyFalls : {D : Type 0} → Analysis D → List Entry → List D → List Entry → List D → Type 0
OnlyFalls {D} a before values after newer =
    (i : ℕ) → i < length before → (x y : D) → HasDatum before values i x → HasDatum after newer i y → Absorbs a y x

-- those that waited still do, and a class that does not wait was there and has what it had
pub record NotesChanges {D : Type 0} (values : List D) (changed : List ℕ) (newer : List D) (later : List ℕ) : Type 0 where
  pub kept : (i : ℕ) → Contains changed i → Contains later i
  pub same : (i : ℕ) (y : D) → slice_get newer i ≡ Some y → ¬ Contains later i → slice_get values i ≡ Some y

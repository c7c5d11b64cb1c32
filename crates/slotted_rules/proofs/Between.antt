-- Conditions are asked in graphs between, data and all.
use Rattle.std.proofs.Common.{◌≡◌, ◌∙◌, ◌<◌, ◌+◌, ℕ, List, [], length, sym, subst, inl, inr}
use Rattle.std.specs.Prelude.{◌⊎◌, Bool, true, false, IsTrue, slice_index_or}
use Rattle.std.specs.Coded.{Coded}
use Rattle.std.specs.Int.{from_bool}
use Rattle.std.proofs.lemmas.Bool.{false≢true}
use Rattle.slotted_data.specs.Meaning.{IsMergeOf, Meaning}
use Rattle.slotted_patterns.specs.Tree.{PatternTree}
use Rattle.slotted_model_rules.specs.Conditions.{Values}
use Rattle.slotted_graph.specs.Analysed.{LowersData}
use Rattle.slotted_graph.specs.Extension.{ExtendsTo}
use Rattle.slotted_graph.specs.Graph.{Graph}
use Rattle.slotted_graph.specs.States.{IsGraph}
use Rattle.slotted_graph.proofs.Extending.{between-longer, extends-itself}
use Rattle.slotted_graph.proofs.Saying.{lowers-then}
use Rattle.slotted_rules.specs.Between.{AnswersBetween}
use Rattle.slotted_rules.specs.Carried.{CarriesIf}
use Rattle.slotted_rules.specs.Loops.{HasAppliedSome}
use Rattle.slotted_rules.specs.Rewriting.{AppliesEach, AppliesOne, AreFromRule, IsSettled, asserts, next_answer, no_answer, passes_over}
use Rattle.slotted_rules.proofs.Settling.{one-applied}

-- what is left under a condition is left under one that follows from it
module _ (P Q : Values → Graph → Bool → Type 0) (to : (s : Values) (m : Graph) (y : Bool) → P s m y → Q s m y) (p q : PatternTree) (name : List ℕ) where
  one-mapped : (s : Values) (g h : Graph) (y : Bool) → AppliesOne P p q name s g h y → AppliesOne Q p q name s g h y
  one-mapped s g h y (passes_over none same unsaid) = passes_over (to s g false none) same unsaid
  one-mapped s g h y (asserts held passed u) = asserts (to s g true held) passed u

  each-mapped : {found : List Values} {n : ℕ} {g h : Graph} → AppliesEach P p q name found n g h → AppliesEach Q p q name found n g h
  each-mapped no_answer = no_answer
  each-mapped (next_answer {s = s} {y = y} {g = g} {f = f} one more) = next_answer (one-mapped s g f y one) (each-mapped more)

  settled-mapped : (g h : Graph) (s : Values) → IsSettled P p q g h s → IsSettled Q p q g h s
  settled-mapped g h s (inl e) = inl e
  settled-mapped g h s (inr m) = inr (m.0, m.1, to s m.0 false m.2)

  pub origin-mapped : (found : List Values) (g h : Graph) → AreFromRule P p q name found g h → AreFromRule Q p q name found g h
  origin-mapped found g h from n past lt new =
      let c = from n past lt new in
      record {
        answer = c.answer;
        is_found = c.is_found;
        moment = c.moment;
        between = c.between;
        held = to c.answer c.moment true c.held;
        equation = c.equation;
        text = c.text;
      }

  pub some-mapped : (found : List Values) (i n : ℕ) (g h : Graph) → HasAppliedSome P p q name found i n g h → HasAppliedSome Q p q name found i n g h
  some-mapped found i n g h a = record {
    graph = a.graph;
    extends = a.extends;
    settled = λ j l. settled-mapped g h (slice_index_or found j []) (a.settled j l);
    origin = origin-mapped found g h a.origin;
    within = a.within;
    in_turn = each-mapped a.in_turn;
  }

-- each leaves a graph that extends the one before
one-extends : (holds : Values → Graph → Bool → Type 0) (p q : PatternTree) (name : List ℕ) (s : Values) (g h : Graph) (y : Bool) → AppliesOne holds p q name s g h y → ExtendsTo g h
one-extends holds p q name s g h y (passes_over none same unsaid) = subst (ExtendsTo g) (sym same) (extends-itself g)
one-extends holds p q name s g h y (asserts held passed u) = u.extends

module _ {N D : Type 0} (codes : Coded N × Coded D) (meaning : N → Meaning D) (law : (n : N) → IsMergeOf (meaning n)) (holds : Values → Graph → Bool → Type 0) where
  abbrev Between : Graph → Graph → Values → Graph → Bool → Type 0
  Between g h = AnswersBetween codes meaning holds g h

  pub answered : (g h : Graph) (s : Values) (m : Graph) (y : Bool) → Between g h s m y → holds s m y
  answered g h s m y a = a.answer

  answers-longer : (g f h : Graph) → ExtendsTo f h → LowersData codes meaning f h → (s : Values) (m : Graph) (y : Bool) → Between g f s m y → Between g h s m y
  answers-longer g f h e low s m y a = record {
    answer = a.answer;
    between = between-longer g g f h m (extends-itself g) e a.between;
    down = a.down;
    later = lowers-then codes meaning law m f h a.between.before a.later low;
  }

  module _ (p q : PatternTree) (name : List ℕ) where
    one-between : (s : Values) (g f h : Graph) (y : Bool) → IsGraph f → ExtendsTo g f → ExtendsTo f h → LowersData codes meaning g f → LowersData codes meaning f h → AppliesOne holds p q name s f h y → AppliesOne (Between g h) p q name s f h y
    one-between s g f h y is before after down low (passes_over none same unsaid) = passes_over (record { answer = none; between = record { graph = is; after = before; before = after }; down = down; later = low }) same unsaid
    one-between s g f h y is before after down low (asserts held passed u) = asserts (record { answer = held; between = record { graph = is; after = before; before = after }; down = down; later = low }) passed u

    -- one answer more
    pub between-step : {P : Type 0} (found : List Values) (i n : ℕ) → i < length found → (g f : Graph) → HasAppliedSome (Between g f) p q name found i n g f → CarriesIf P codes meaning g f →
        (h : Graph) (y : Bool) → h.failed ≡ false → IsTrue h.failed ⊎ CarriesIf P codes meaning f h → AppliesOne holds p q name (slice_index_or found i []) f h y → HasAppliedSome (Between g h) p q name found (i + 1) (n + from_bool y) g h
    between-step found i n l g f so_far carried h y well (inl failed) one = absurd (false≢true (sym well ∙ failed))
    between-step found i n l g f so_far carried h y well (inr later) one =
        let s = slice_index_or found i [] in
        let e = one-extends holds p q name s f h y one in
        one-applied (Between g h) p q name found i n l g f (some-mapped (Between g f) (Between g h) (answers-longer g f h e later.lowers) p q name found i n g f so_far) h y
        (one-between s g f h y so_far.graph so_far.extends e carried.lowers later.lowers one)

    -- what is known of the condition alone
    pub answered-some : (found : List Values) (i n : ℕ) (g h : Graph) → HasAppliedSome (Between g h) p q name found i n g h → HasAppliedSome holds p q name found i n g h
    answered-some found i n g h = some-mapped (Between g h) holds (answered g h) p q name found i n g h

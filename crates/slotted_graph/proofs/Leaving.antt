-- What edits and rounds leave: the graph is extended, and what is asserted is what edits say.
use Rattle.std.proofs.Common.{◌≡◌, ◌∙◌, ℕ, List, [], ◌∷◌, ◌++◌, ap, refl, sym, subst}
use Rattle.std.specs.Prelude.{◌⊎◌, Bool, Contains, IsTrue, count_by, slice_get, suc, ◌||◌}
use Rattle.std.specs.Coded.{Coded}
use Rattle.std.proofs.lemmas.List.Elements.{All-contains, Contains-append_left, Contains-push}
use base.Stored.{Gv}
use Rattle.slotted_theory.specs.Nameless.{DTerm}
use Rattle.slotted_model.specs.Applied.{Applied}
use Rattle.slotted_rebuilding.proofs.RebuildCounts.{counts-same}
use Rattle.slotted_data.specs.declared.edit.Edit.{Edit}
use Rattle.slotted_data.specs.Meaning.{IsMergeOf, Meaning, by_bare_nodes}
use Rattle.slotted_data.specs.Part.{Part, part_code}
use Rattle.slotted_data.proofs.Grounding.{grounds-itself, stays-itself}
use Rattle.slotted_operations.specs.LookUp.{HasSameClasses}
use Rattle.slotted_graph.specs.Analysed.{CountsPending, IsAnalysisOf, KeepsFound, LowersData, LowersDataWith, LowersPart, TakesPending, is_live_class}
use Rattle.slotted_graph.specs.Extension.{ExtendsTo}
use Rattle.slotted_operations.specs.Graph.{Graph}
use Rattle.slotted_operations.specs.Causes.{class_found}
use Rattle.slotted_operations.specs.Image.{Image, asserted_in}
use Rattle.slotted_operations.specs.Reports.{names_slots, slots_used}
use Rattle.slotted_graph.specs.States.{IsGraph}
use Rattle.slotted_graph.proofs.Extending.{between-longer, extends-itself, extends-then}
use Rattle.slotted_graph.proofs.Insides.{given}
use Rattle.slotted_graph.specs.Asked.{Asks, IsAskedBetween, IsAskedBetweenWith, IsAskedIn}
use Rattle.slotted_graph.specs.Edited.{AssertsMore, IsSaid, MakesEdits, all_made, then_edit}
use Rattle.slotted_graph.specs.Rounds.{LeavesModified, Modifies, ModifiesClass, TakesRound, TakesRounds, all_modified, modified, no_rounds, one_round, passed_over, then_modified}
use Rattle.slotted_graph.proofs.Saying.{carried-lowers, lowers-itself, lowers-then, lowers-then-with, no-more, said-longer, then-more}

-- where data alone changes, and whether the graph failed, it is extended
other-part : (g : Graph) (failed : Bool) (part : Gv) → ExtendsTo g (record g { failed = failed; part = part })
other-part g failed part =
    let e = extends-itself g in
    record {
      more = e.more;
      canonical = e.canonical;
      valid = λ a v. record { in_range = v.in_range; ascending = v.ascending; injective = v.injective; known = v.known; within = v.within; has_left = v.has_left };
      alike = λ a b v w s. s;
      entries = e.entries;
      stored = e.stored;
      asserted = e.asserted;
      symmetries = e.symmetries;
      counts = e.counts;
    }

pub extends-kept : (g h : Graph) → HasSameClasses g h → ExtendsTo g h
extends-kept g h k =
    let same : record g { failed = h.failed; part = h.part } ≡ h =
    λ i. record { failed = h.failed; table = sym k.table i; image = sym k.image i; filed = sym k.filed i; part = h.part } in
    subst (ExtendsTo g) same (other-part g h.failed h.part)

keeps-itself : (g : Graph) → HasSameClasses g g
keeps-itself g = record { table = refl; image = refl; filed = refl }

keeps-then : (f g h : Graph) → HasSameClasses f g → HasSameClasses g h → HasSameClasses f h
keeps-then f g h a b = record { table = b.table ∙ a.table; image = b.image ∙ a.image; filed = b.filed ∙ a.filed }

-- a graph has one analysis
one-analysis : {N D : Type 0} (codes : Coded N × Coded D) (g : Graph) (m n : N) → IsAnalysisOf codes g m → IsAnalysisOf codes g n → m ≡ n
one-analysis codes g m n a b =
    let same : a.part ≡ b.part = (part_code codes).inj a.part b.part (sym a.keeps ∙ b.keeps) in
    sym a.is ∙ (ap (λ (p : Part _ _). p.analysis) same ∙ b.is)

-- and one number of live classes that wait
one-count : {N D : Type 0} (codes : Coded N × Coded D) (g : Graph) (m n : ℕ) → CountsPending codes g m → CountsPending codes g n → m ≡ n
one-count codes g m n a b =
    let same : a.part ≡ b.part = (part_code codes).inj a.part b.part (sym a.keeps ∙ b.keeps) in
    a.is ∙ (ap (λ (p : Part _ _). count_by (is_live_class g.image) p.changed) same ∙ sym b.is)

pub some-wait : {N D : Type 0} (codes : Coded N × Coded D) (g : Graph) (n : ℕ) → IsGraph g → IsTrue g.failed ⊎ CountsPending codes g n → ¬ (n ≡ 0) → ¬ CountsPending codes g 0
some-wait codes g n is counts more none = more (one-count codes g n 0 (given is.well counts) none)

-- the analysis is the same
pub keeps-analysis : {N D : Type 0} (codes : Coded N × Coded D) (meaning : N → Meaning D) (g h : Graph) (n : N) → LowersData codes meaning g h → IsAnalysisOf codes g n → IsAnalysisOf codes h n
keeps-analysis codes meaning g h n lowers is =
    let l = lowers is.part is.keeps in
    record { part = l.newer; keeps = l.after; is = l.analysis ∙ is.is }

module _ {L N D : Type 0} (codes : Coded N × Coded D) (meaning : N → Meaning D) where
  -- edits of one class

  pub edits-graph : {g : Graph} {c : Applied} {h : Graph} {es : List (Edit L)} → IsGraph g → MakesEdits codes meaning g c es h → IsGraph h
  edits-graph is all_made = is
  edits-graph is (then_edit m x) = x.graph

  pub edits-extend : {g : Graph} {c : Applied} {h : Graph} {es : List (Edit L)} → MakesEdits codes meaning g c es h → ExtendsTo g h
  edits-extend {g = g} all_made = extends-itself g
  edits-extend {g = g} {h = h} (then_edit {f = f} m x) = extends-then g f h (edits-extend m) x.extends

  edits-lower : (law : (n : N) → IsMergeOf (meaning n)) {g : Graph} {c : Applied} {h : Graph} {es : List (Edit L)} → MakesEdits codes meaning g c es h → LowersData codes meaning g h
  edits-lower law {g = g} all_made = lowers-itself codes meaning law g
  edits-lower law {g = g} {h = h} (then_edit {f = f} m x) = lowers-then codes meaning law g f h (edits-extend m) (edits-lower law m) (carried-lowers codes meaning f h x.carries)

  -- one of the edits says so
  abbrev IsSaidByOne : Graph → Graph → Applied → List (Edit L) → DTerm × DTerm → Type 0
  IsSaidByOne g h c es p = (e : Edit L) × Contains es e × IsSaid g h c e p

  edits-said : {g : Graph} {c : Applied} {h : Graph} {es : List (Edit L)} → MakesEdits codes meaning g c es h → AssertsMore (IsSaidByOne g h c es) g h
  edits-said {g = g} {c = c} all_made = no-more (IsSaidByOne g g c []) g g refl
  edits-said {g = g} {c = c} {h = h} (then_edit {f = f} {e = e} {es = es} m x) =
      then-more (IsSaidByOne g f c es) (IsSaid f h c e) (IsSaidByOne g h c (es ++ e ∷ [])) g f h
      (λ p s. (s.0, Contains-append_left es (e ∷ []) s.0 s.1, said-longer g g f h c s.0 p (extends-itself g) x.extends s.2))
      (λ p s. (e, Contains-push es e, said-longer g f h h c e p (edits-extend m) (extends-itself h) s))
      (edits-said m) x.asserts

  none-made : {g : Graph} {c : Applied} {h : Graph} {es : List (Edit L)} → MakesEdits codes meaning g c es h → ((e : Edit L) → Contains es e → ⊥) → h ≡ g
  none-made all_made none = refl
  none-made (then_edit {e = e} {es = es} m x) none = absurd (none e (Contains-push es e))

  module _ (law : (n : N) → IsMergeOf (meaning n)) (ask : Asks L N D) where
    pub asked-longer-with : (given : List (ℕ × D)) (f g h i : Graph) (p : DTerm × DTerm) → ExtendsTo f g → LowersDataWith given codes meaning f g → ExtendsTo h i → LowersData codes meaning h i → IsAskedBetween codes meaning ask g h p → IsAskedBetweenWith given codes meaning ask f i p
    asked-longer-with given f g h i p before down after later a = record {
      moment = a.moment;
      between = between-longer f g h i a.moment before after a.between;
      down = lowers-then-with given codes meaning law f g a.moment before down a.down;
      later = lowers-then codes meaning law a.moment h i a.between.before a.later later;
      class = a.class;
      lives = a.lives;
      edit = a.edit;
      is_asked = a.is_asked;
      says = said-longer a.moment a.moment h i (names_slots a.moment.image a.class) a.edit p (extends-itself a.moment) after a.says;
    }

    pub asked-on-with : (given : List (ℕ × D)) (f h i : Graph) (p : DTerm × DTerm) → ExtendsTo h i → LowersData codes meaning h i → IsAskedBetweenWith given codes meaning ask f h p → IsAskedBetweenWith given codes meaning ask f i p
    asked-on-with given f h i p after later a = record {
      moment = a.moment;
      between = between-longer f f h i a.moment (extends-itself f) after a.between;
      down = a.down;
      later = lowers-then codes meaning law a.moment h i a.between.before a.later later;
      class = a.class;
      lives = a.lives;
      edit = a.edit;
      is_asked = a.is_asked;
      says = said-longer a.moment a.moment h i (names_slots a.moment.image a.class) a.edit p (extends-itself a.moment) after a.says;
    }

    pub asked-longer : (f g h i : Graph) (p : DTerm × DTerm) → ExtendsTo f g → LowersData codes meaning f g → ExtendsTo h i → LowersData codes meaning h i → IsAskedBetween codes meaning ask g h p → IsAskedBetween codes meaning ask f i p
    asked-longer f g h i p before down after later a = asked-longer-with [] f g h i p before down after later a

    pub leaves-itself : (g : Graph) → IsGraph g → LeavesModified codes meaning ask g g
    leaves-itself g is = record {
      graph = is;
      extends = extends-itself g;
      asserts = no-more (IsAskedBetween codes meaning ask g g) g g refl;
      lowers = lowers-itself codes meaning law g;
      alone = λ n k nothing. keeps-itself g;
    }

    pub leaves-then : (f g h : Graph) → LeavesModified codes meaning ask f g → LeavesModified codes meaning ask g h → LeavesModified codes meaning ask f h
    leaves-then f g h a b = record {
      graph = b.graph;
      extends = extends-then f g h a.extends b.extends;
      asserts = then-more (IsAskedBetween codes meaning ask f g) (IsAskedBetween codes meaning ask g h) (IsAskedBetween codes meaning ask f h) f g h
          (λ p x. asked-longer f f g h p (extends-itself f) (lowers-itself codes meaning law f) b.extends b.lowers x)
          (λ p x. asked-longer f g h h p a.extends a.lowers (extends-itself h) (lowers-itself codes meaning law h) x)
          a.asserts b.asserts;
      lowers = lowers-then codes meaning law f g h a.extends a.lowers b.lowers;
      alone = λ n k nothing. keeps-then f g h (a.alone n k nothing) (b.alone n (keeps-analysis codes meaning f g n a.lowers k) nothing);
    }

    pub class-leaves : (g : Graph) (c : ℕ) (h : Graph) (y : Bool) → IsGraph g → ModifiesClass codes meaning ask g c h y → LeavesModified codes meaning ask g h
    class-leaves g c h y is (passed_over dead same none) = subst (LeavesModified codes meaning ask g) (sym same) (leaves-itself g is)
    class-leaves g c h y is (modified here lives edits asked makes says) =
        let extends = edits-extend makes in
        let said = edits-said makes in
        record {
          graph = edits-graph is makes;
          extends = extends;
          asserts = record {
            more = said.more;
            asserted = said.asserted;
            each = λ p x. let s = said.each p x in record {
              moment = g;
              between = record { graph = is; after = extends-itself g; before = extends };
              down = lowers-itself codes meaning law g;
              later = edits-lower law makes;
              class = c;
              lives = lives;
              edit = s.0;
              is_asked = All-contains (IsAskedIn codes ask g c) edits s.0 asked s.1;
              says = s.2;
            };
          };
          lowers = edits-lower law makes;
          alone = λ n k nothing.
              let none : h ≡ g = none-made makes (λ e x.
              let a = All-contains (IsAskedIn codes ask g c) edits e asked x in
              nothing a.datum (slots_used g.image c) e (subst (λ m. ask m a.datum (slots_used g.image c) e) (one-analysis codes g a.analysis n a.keeps k) a.asked)) in
              subst (HasSameClasses g) (sym none) (keeps-itself g);
        }

    pub each-leaves : {g : Graph} {cs : List ℕ} {h : Graph} {y : Bool} → IsGraph g → Modifies codes meaning ask g cs h y → LeavesModified codes meaning ask g h
    each-leaves {g = g} is all_modified = leaves-itself g is
    each-leaves {g = g} {h = h} is (then_modified {c = c} {f = f} {z = z} m x) =
        let first = each-leaves is m in
        leaves-then g f h first (class-leaves f c h z first.graph x)

    taken-leaves : (g h : Graph) (is : List ℕ) → IsGraph h → TakesPending codes g h is → HasSameClasses g h → LeavesModified codes meaning ask g h
    taken-leaves g h is graph takes same = record {
      graph = graph;
      extends = extends-kept g h same;
      asserts = no-more (IsAskedBetween codes meaning ask g h) g h (ap asserted_in same.image);
      lowers = λ p keeps.
          let one : takes.part ≡ p = (part_code codes).inj takes.part p (sym takes.keeps ∙ keeps) in
          subst (λ (q : Part N D). LowersPart codes meaning g q h) one (record {
            newer = record takes.part { changed = [] };
            after = takes.left;
            analysis = refl;
            rounds = refl;
            counts = counts-same takes.part.counts.own;
            falls = λ i within x has. (
              x,
              ap (λ (z : Image). slice_get takes.part.values (class_found z i)) same.image ∙ has,
              (law takes.part.analysis).idempotent x,
            );
            stays = subst (KeepsFound g.image) (sym same.image) (stays-itself g.image.canonical (class_found g.image));
            comes = grounds-itself (by_bare_nodes (meaning takes.part.analysis)) h.image.canonical (class_found h.image) [] takes.part.values;
          });
      alone = λ n k nothing. same;
    }

    pub round-leaves : (g h : Graph) (y : Bool) → TakesRound codes meaning ask g h y → LeavesModified codes meaning ask g h
    round-leaves g h y r = leaves-then g r.left h (taken-leaves g r.left r.classes r.graph r.takes r.same) (each-leaves r.graph r.modifies)

    pub rounds-leave : {g : Graph} {n : ℕ} {h : Graph} {y : Bool} → IsGraph g → TakesRounds codes meaning ask g n h y → LeavesModified codes meaning ask g h
    rounds-leave {g = g} is no_rounds = leaves-itself g is
    rounds-leave {g = g} {h = h} is (one_round {f = f} {z = z} m waits r) = leaves-then g f h (rounds-leave is m) (round-leaves f h z r)

    -- one class more was modified, and one round more made
    pub each-then : {g f h : Graph} {cs : List ℕ} {c : ℕ} {y z : Bool} → Modifies codes meaning ask g cs f y → ModifiesClass codes meaning ask f c h z → (all : List ℕ) → all ≡ cs ++ c ∷ [] → (asked : Bool) → asked ≡ (z || y) → Modifies codes meaning ask g all h asked
    each-then {g = g} {h = h} {y = y} {z = z} m x all is asked says = subst (λ b. Modifies codes meaning ask g all h b) (sym says) (subst (λ xs. Modifies codes meaning ask g xs h (z || y)) (sym is) (then_modified m x))

    pub rounds-then : {g f h : Graph} {n : ℕ} {y z : Bool} → TakesRounds codes meaning ask g n f y → ¬ CountsPending codes f 0 → TakesRound codes meaning ask f h z → (m : ℕ) → m ≡ suc n → (asked : Bool) → asked ≡ (z || y) → TakesRounds codes meaning ask g m h asked
    rounds-then {g = g} {h = h} {n = n} {y = y} {z = z} m waits r all is asked says = subst (λ b. TakesRounds codes meaning ask g all h b) (sym says) (subst (λ k. TakesRounds codes meaning ask g k h (z || y)) (sym is) (one_round m waits r))

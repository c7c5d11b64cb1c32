-- A text that reads as a term leaves a table that knows the term's names, and each node has the right number of children.
use Rattle.std.proofs.Common.{◌≡◌, ◌<◌, ℕ, zero, suc, ◌+◌, Bool, true, false, List, [], ◌∷◌, length, take, drop, refl, subst, ◌∙◌, arith, length-append}
use Rattle.std.specs.Prelude.{IsTrue, slice_index, Option, Some, None, ◌==◌, if◌then◌else◌}
use Rattle.std.proofs.lemmas.Bool.{eqb-true}
use Rattle.std.proofs.lemmas.List.{length-drop, length-take-le}
use Rattle.slotted_theory.specs.Term.{Term}
use Rattle.slotted_slots.specs.Table.{Table, is_known}
use Rattle.slotted_slots.proofs.TableLaws.{is_known-numeric_slot}
use Rattle.slotted_nodes.specs.Form.{Form, Tree, leaf, own, child, bind, scopes, children}
use Rattle.slotted_languages.specs.Filled.{filled, term_of}
use Rattle.slotted_patterns.specs.Known.{AreKnown, HaveKnownNames}
use Rattle.slotted_patterns.specs.Known.{HasKnownNames as IsKnownTree}
use Rattle.slotted_patterns.specs.Tree.{PatternTree, enode, pvar, substitution, PatternRow, no_more, one_more}
use Rattle.slotted_terms.specs.AsTerm.{over, in_front, as_term, as_terms}
use Rattle.slotted_terms.specs.Valid.{IsWhole, HasKnownNames, IsValidTerm}

module _ (table : Table) where
  AreKnown-take : (n : ℕ) (xs : List ℕ) → AreKnown table xs → AreKnown table (take n xs)
  AreKnown-take zero xs h = tt
  AreKnown-take (suc n) [] h = tt
  AreKnown-take (suc n) (x ∷ xs) h = (h.0, AreKnown-take n xs h.1)

  AreKnown-drop : (n : ℕ) (xs : List ℕ) → AreKnown table xs → AreKnown table (drop n xs)
  AreKnown-drop zero xs h = h
  AreKnown-drop (suc n) [] h = tt
  AreKnown-drop (suc n) (x ∷ xs) h = AreKnown-drop n xs h.1

  -- the first one, or $0
  AreKnown-first : (xs : List ℕ) → AreKnown table xs → IsTrue (is_known table (slice_index xs 0))
  AreKnown-first [] h = is_known-numeric_slot table 0
  AreKnown-first (x ∷ xs) h = h.0

  -- each of the terms is valid, and none is a hole
  abbrev AreValid : List Term → Type 0
  AreValid [] = Unit {0}
  AreValid (u ∷ us) = (0 < u.op) × IsValidTerm table u × AreValid us

  AreValid-take : (n : ℕ) (us : List Term) → AreValid us → AreValid (take n us)
  AreValid-take zero us h = tt
  AreValid-take (suc n) [] h = tt
  AreValid-take (suc n) (u ∷ us) h = (h.0, h.1, AreValid-take n us h.2)

  AreValid-drop : (n : ℕ) (us : List Term) → AreValid us → AreValid (drop n us)
  AreValid-drop zero us h = h
  AreValid-drop (suc n) [] h = tt
  AreValid-drop (suc n) (u ∷ us) h = AreValid-drop n us h.2

  -- a tree with known names over as many valid terms as it has children
  filled_valid : (tree : Tree) (xs : List ℕ) (us : List Term) → AreKnown table xs → length us ≡ length (children tree) → AreValid us → IsWhole (filled tree xs us) × HasKnownNames table (filled tree xs us)
  filled_valid leaf xs [] k c v = (tt, tt)
  filled_valid leaf xs (u ∷ us) k c v = absurd (omega (arith, c))
  filled_valid (own r) xs us k c v =
      let rest = filled_valid r (drop 1 xs) us (AreKnown-drop 1 xs k) c v in
      (rest.0, (AreKnown-first xs k, rest.1))
  filled_valid (child i ks r) xs [] k c v = absurd (omega (arith, c))
  filled_valid (child i ks r) xs (u ∷ us) k c v =
      let rest = filled_valid r (drop (length ks) xs) us (AreKnown-drop (length ks) xs k) (omega (arith, c)) v.2 in
      ((v.0, v.1.whole, rest.0), (v.1.known, rest.1))
  filled_valid (bind t r) xs us k c v =
      let n = length (children t) in
      let m = length (scopes t) in
      let ys = drop 1 xs in
      let known : AreKnown table ys = AreKnown-drop 1 xs k in
      let both : length us ≡ n + length (children r) = c ∙ length-append (children t) (children r) in
      let inner = filled_valid t (take m ys) (take n us) (AreKnown-take m ys known) (length-take-le n us (omega (arith, both))) (AreValid-take n us v) in
      let rest = filled_valid r (drop m ys) (drop n us) (AreKnown-drop m ys known) (omega (arith, length-drop n us, both)) (AreValid-drop n us v) in
      ((inner.0, rest.0), (AreKnown-first xs k, inner.1, rest.1))

  -- a term over a tree with known names
  IsValidOption : Option Term → Type 0
  IsValidOption (Some u) = (0 < u.op) × IsValidTerm table u
  IsValidOption None = Unit {0}

  AreValidOption : Option (List Term) → Type 0
  AreValidOption (Some us) = AreValid us
  AreValidOption None = Unit {0}

  in_front_valid : (o : Option Term) (os : Option (List Term)) → IsValidOption o → AreValidOption os → AreValidOption (in_front o os)
  unfolding IsValidOption AreValidOption
  in_front_valid (Some u) (Some us) h k = (h.0, h.1, k)
  in_front_valid (Some u) None h k = tt
  in_front_valid None os h k = tt

  counted_valid : (f : Form) (us : List Term) (b : Bool) → (b ≡ true → length us ≡ length (children f.tree)) → AreKnown table f.names → AreValid us → IsValidOption (if b then Some (term_of f us) else None)
  unfolding IsValidOption
  counted_valid f us true c k v =
      let args = filled_valid f.tree f.names us k (c refl) v in
      (omega arith, record { whole = args.0; known = args.1 })
  counted_valid f us false c k v = tt

  over_valid : (f : Form) (os : Option (List Term)) → AreKnown table f.names → AreValidOption os → IsValidOption (over f os)
  unfolding IsValidOption AreValidOption
  over_valid f (Some us) k v = counted_valid f us (length us == length (children f.tree)) (eqb-true (length us) (length (children f.tree))) k v
  over_valid f None k v = tt

  mutual
    unfolding IsValidOption AreValidOption

    as_term_valid : (p : PatternTree) → IsKnownTree table p → IsValidOption (as_term p)
    as_term_valid (enode f row) k = over_valid f (as_terms row) k.0 (as_terms_valid row k.1)
    as_term_valid (pvar v) k = tt
    as_term_valid (substitution b x t) k = tt

    as_terms_valid : (row : PatternRow) → HaveKnownNames table row → AreValidOption (as_terms row)
    as_terms_valid no_more k = tt
    as_terms_valid (one_more p rest) k = in_front_valid (as_term p) (as_terms rest) (as_term_valid p k.0) (as_terms_valid rest k.1)

  -- the term that a pattern with known names is
  pub term_valid : (p : PatternTree) (u : Term) → IsKnownTree table p → as_term p ≡ Some u → IsValidTerm table u
  unfolding IsValidOption
  term_valid p u k e = (subst IsValidOption e (as_term_valid p k)).1

-- What is known of a pattern whose nodes are all known.
use Rattle.std.proofs.Common.{◌≡◌, ◌↔◌, ◌∙◌, ℕ, List, [], ◌∷◌, Bool, true, false, refl, sym, ap, length}
use Rattle.std.specs.Prelude.{not, ◌&&◌, ◌||◌, IsTrue, is_some}
use Rattle.std.specs.List.{list_all}
use Rattle.std.proofs.Math.Dec.{ltb}
use Rattle.std.proofs.lemmas.Bool.{false≢true, lt-ltb}
use Rattle.std.proofs.lemmas.List.Elements.{All-from_recursion, recursion_from_All}
use Rattle.slotted_lists.proofs.Booleans.{and-true}
use Rattle.slotted_slots.specs.Table.{KnowsMore, Table, is_known, slot_limit, AllKnown}
use Rattle.slotted_nodes.specs.Form.{Form, IsSmall}
use Rattle.slotted_patterns.specs.Known.{AreKnown, HasKnownNames, HaveKnownNames}
use Rattle.slotted_patterns.specs.Tree.{PatternTree, PatternRow, enode, pvar, substitution, no_more, one_more}
use Rattle.slotted_rule_patterns.specs.Inside.{first_such}
use Rattle.slotted_rule_patterns.proofs.FirstInside.{asked-node, asked-row, asked-substitution, row_such}
use Rattle.slotted_rule_patterns.proofs.Questions.{neither, or-false, twice}
use Rattle.slotted_graph.specs.KnownPatterns.{is_unknown, knows_node, knows_pattern, know_row, HasSmallNodes, HaveSmallNodes}

true-both : (x y : Bool) → x ≡ true → y ≡ true → (x && y) ≡ true
true-both x y e f = ap (λ b. b && y) e ∙ f

-- a list of known names
each-known : (t : Table) (xs : List ℕ) → list_all (is_known t) xs ≡ true → AreKnown t xs
each-known t [] e = tt
each-known t (x ∷ xs) e = let h = and-true (is_known t x) (list_all (is_known t) xs) e in (h.0, each-known t xs h.1)

known-each : (t : Table) (xs : List ℕ) → AreKnown t xs → list_all (is_known t) xs ≡ true
known-each t [] k = refl
known-each t (x ∷ xs) k = true-both (is_known t x) (list_all (is_known t) xs) k.0 (known-each t xs k.1)

all-listed : (t : Table) (xs : List ℕ) → AllKnown t xs → list_all (is_known t) xs ≡ true
all-listed t xs h = known-each t xs (given xs (recursion_from_All (λ s. IsTrue (is_known t s)) xs h))
  where
    given : (ys : List ℕ) → Rattle.std.specs.List.AllByRecursion (λ s. IsTrue (is_known t s)) ys → AreKnown t ys
    given [] k = tt
    given (y ∷ ys) k = (k.0, given ys k.1)

listed-all : (t : Table) (xs : List ℕ) → list_all (is_known t) xs ≡ true → AllKnown t xs
listed-all t xs e = All-from_recursion (λ s. IsTrue (is_known t s)) xs (given xs (each-known t xs e))
  where
    given : (ys : List ℕ) → AreKnown t ys → Rattle.std.specs.List.AllByRecursion (λ s. IsTrue (is_known t s)) ys
    given [] k = tt
    given (y ∷ ys) k = (k.0, given ys k.1)

-- a node that is small: the test of its names says all
pub node-known : (t : Table) (f : Form) (b : Bool) → IsSmall f → IsTrue b ↔ AllKnown t f.names → b ≡ knows_node t f
node-known t f b small same = decide b refl (list_all (is_known t) f.names) refl
  where
    decide : (x : Bool) → b ≡ x → (y : Bool) → list_all (is_known t) f.names ≡ y → b ≡ knows_node t f
    decide true e true l = e ∙ sym (true-both (ltb (length f.names) slot_limit) (list_all (is_known t) f.names) (lt-ltb (length f.names) slot_limit small) l)
    decide true e false l = absurd (false≢true (sym l ∙ all-listed t f.names (same.0 e)))
    decide false e true l = absurd (false≢true (sym e ∙ same.1 (listed-all t f.names l)))
    decide false e false l = e ∙ sym (ap (λ x. x && list_all (is_known t) f.names) (lt-ltb (length f.names) slot_limit small) ∙ l)

module _ (t : Table) where
  -- each node is known exactly if no pattern inside is one that is not
  mutual
    pub asks-unknown : (p : PatternTree) → not (is_some (first_such (is_unknown t) p)) ≡ knows_pattern t p
    asks-unknown (enode f row) =
        let q = is_unknown t in
        ap not (asked-node q f row)
        ∙ (neither (is_some (row_such q row)) (not (knows_node t f)) ∙ (λ i. asks-unknowns row i && twice (knows_node t f) i))
    asks-unknown (pvar v) = refl
    asks-unknown (substitution b x v) =
        let q = is_unknown t in
        ap not (asked-substitution q b x v ∙ ap (λ c. is_some (first_such q b) || (is_some (first_such q x) || c)) (or-false (is_some (first_such q v))))
        ∙ (neither (is_some (first_such q b)) (is_some (first_such q x) || is_some (first_such q v))
        ∙ (λ i. asks-unknown b i && (neither (is_some (first_such q x)) (is_some (first_such q v)) ∙ (λ j. asks-unknown x j && asks-unknown v j)) i))

    asks-unknowns : (row : PatternRow) → not (is_some (row_such (is_unknown t) row)) ≡ know_row t row
    asks-unknowns no_more = refl
    asks-unknowns (one_more p rest) =
        ap not (asked-row (is_unknown t) p rest)
        ∙ (neither (is_some (first_such (is_unknown t) p)) (is_some (row_such (is_unknown t) rest)) ∙ (λ i. asks-unknown p i && asks-unknowns rest i))

  mutual
    pub knows-known : (p : PatternTree) → knows_pattern t p ≡ true → HasKnownNames t p
    knows-known (enode f row) e =
        let h = and-true (know_row t row) (knows_node t f) e in
        (each-known t f.names (and-true (ltb (length f.names) slot_limit) (list_all (is_known t) f.names) h.1).1, know-known row h.0)
    knows-known (pvar v) e = tt
    knows-known (substitution b x v) e =
        let h = and-true (knows_pattern t b) (knows_pattern t x && knows_pattern t v) e in
        let k = and-true (knows_pattern t x) (knows_pattern t v) h.1 in
        (knows-known b h.0, knows-known x k.0, knows-known v k.1)

    know-known : (row : PatternRow) → know_row t row ≡ true → HaveKnownNames t row
    know-known no_more e = tt
    know-known (one_more p rest) e = let h = and-true (knows_pattern t p) (know_row t rest) e in (knows-known p h.0, know-known rest h.1)

  mutual
    pub known-knows : (p : PatternTree) → HasKnownNames t p → HasSmallNodes p → knows_pattern t p ≡ true
    known-knows (enode f row) k s =
        true-both (know_row t row) (knows_node t f) (known-know row k.1 s.1)
        (true-both (ltb (length f.names) slot_limit) (list_all (is_known t) f.names) (lt-ltb (length f.names) slot_limit s.0) (known-each t f.names k.0))
    known-knows (pvar v) k s = refl
    known-knows (substitution b x v) k s =
        true-both (knows_pattern t b) (knows_pattern t x && knows_pattern t v) (known-knows b k.0 s.0)
        (true-both (knows_pattern t x) (knows_pattern t v) (known-knows x k.1 s.1) (known-knows v k.2 s.2))

    known-know : (row : PatternRow) → HaveKnownNames t row → HaveSmallNodes row → know_row t row ≡ true
    known-know no_more k s = refl
    known-know (one_more p rest) k s = true-both (knows_pattern t p) (know_row t rest) (known-knows p k.0 s.0) (known-know rest k.1 s.1)

-- the names of patterns that a table knows, it knows later

names-later : (t u : Table) → KnowsMore t u → (xs : List ℕ) → AreKnown t xs → AreKnown u xs
names-later t u more [] k = tt
names-later t u more (x ∷ xs) k = (more x k.0, names-later t u more xs k.1)

mutual
  pub pattern-later : (t u : Table) → KnowsMore t u → (p : PatternTree) → HasKnownNames t p → HasKnownNames u p
  pattern-later t u more (enode f row) k = (names-later t u more f.names k.0, row-later t u more row k.1)
  pattern-later t u more (pvar v) k = tt
  pattern-later t u more (substitution b x v) k = (pattern-later t u more b k.0, pattern-later t u more x k.1, pattern-later t u more v k.2)

  row-later : (t u : Table) → KnowsMore t u → (row : PatternRow) → HaveKnownNames t row → HaveKnownNames u row
  row-later t u more no_more k = tt
  row-later t u more (one_more p rest) k = (pattern-later t u more p k.0, row-later t u more rest k.1)

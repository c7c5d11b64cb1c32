-- Explanations: what finds call equal can be entered in the proof list, by steps over what is there.
use Rattle.std.proofs.Common.{◌≡◌, ◌≢◌, ℕ, zero, suc, ◌+◌, ◌<◌, ◌≤◌, List, [], ◌∷◌, ◌++◌, None, length, sym, ◌∙◌, ap, refl, subst, inl, inr, arith, length-append, append_assoc}
use Rattle.std.specs.Prelude.{Contains, map, ◌⊎◌}
use Rattle.std.specs.List.{cons_option}
use Rattle.std.proofs.lemmas.Bool.{cases_eq}
use Rattle.std.proofs.lemmas.List.{get_or_append_left, append-nil}
use Rattle.slotted_lists.proofs.Contained.{contains_head, contains_tail, contains_cases, Contains-nil}
use Rattle.slotted_theory.specs.Nameless.{DTerm}
use Rattle.slotted_model.specs.Applied.{Applied}
use Rattle.slotted_model.specs.Classes.{canonical_slots, IsFull}
use Rattle.slotted_model.specs.Find.{Entry, entry_at, find, Linked}
use Rattle.slotted_model.specs.ProofList.{Equation, Step, ProofEntry, explicit, symmetric, transitive, congruent, equation_of, turned_equation, IsOver, IsTransitive, IsCongruent, equation_at, IsStepFor, Proved, term_pair, if_explicit, asserted, entry_equation, find_equation, Exact}
use Rattle.slotted_model.specs.Link.{found_equation, half_found_equation}
use Rattle.slotted_model.specs.Explained.{Explained}
use Rattle.slotted_model.specs.Normal.{IsOfFoundAlike, IsCongruentByFinds}
use Rattle.slotted_model.proofs.Correspondences.PartialInjections.{turned-partial, turned-turned}
use Rattle.slotted_model.proofs.Correspondences.FullMaps.{same_names-partial}
use Rattle.slotted_model.proofs.Correspondences.FullIds.{full_map}
use Rattle.slotted_model.proofs.Finds.Finding.{leads, along}
use Rattle.slotted_model.proofs.Finds.FindProofs.{find_equation-over, find_equation-live, find_equation-follows, found_alike-join}
use Rattle.slotted_model.proofs.Finds.Uniting.{half-over, found_equation-over, half-step, found-step}
use Rattle.slotted_model.proofs.Finds.Entering.{entered-proved, entered-asserted, equation-last, longer-length}

-- whether two lists of pairs are the same
pub pairs_cases : (A B : List (ℕ × ℕ)) → (A ≡ B) ⊎ (A ≢ B)
pairs_cases [] [] = inl refl
pairs_cases [] (q ∷ B) = inr (λ e. let l : ◌≡◌ {A = ℕ} 0 (length (q ∷ B)) = ap (λ (L : List (ℕ × ℕ)). length L) e in omega arith)
pairs_cases (p ∷ A) [] = inr (λ e. let l : length (p ∷ A) ≡ 0 = ap (λ (L : List (ℕ × ℕ)). length L) e in omega arith)
pairs_cases (p ∷ A) (q ∷ B) = elim (cases_eq p.0 q.0) [
  | inl e ↦ elim (cases_eq p.1 q.1) [
    | inl f ↦ elim (pairs_cases A B) [
      | inl g ↦ inl (λ i. (e i, f i) ∷ g i)
      | inr n ↦ inr (λ h. n (ap rest h))
    ]
    | inr n ↦ inr (λ h. n (ap (λ L. (first L).1) h))
  ]
  | inr n ↦ inr (λ h. n (ap (λ L. (first L).0) h))
]
  where
    first : List (ℕ × ℕ) → ℕ × ℕ
    first [] = (0, 0)
    first (x ∷ L) = x

    rest : List (ℕ × ℕ) → List (ℕ × ℕ)
    rest [] = []
    rest (x ∷ L) = L

equation_cases : (d e : Equation) → (d ≡ e) ⊎ (d ≢ e)
equation_cases d e = elim (cases_eq d.left e.left) [
  | inl l ↦ elim (cases_eq d.right e.right) [
    | inl r ↦ elim (pairs_cases d.pairs e.pairs) [
      | inl p ↦ inl (λ i. record { left = l i; right = r i; pairs = p i })
      | inr n ↦ inr (λ h. n (ap (λ (x : Equation). x.pairs) h))
    ]
    | inr n ↦ inr (λ h. n (ap (λ (x : Equation). x.right) h))
  ]
  | inr n ↦ inr (λ h. n (ap (λ (x : Equation). x.left) h))
]

-- whether an equation stands in the list
abbrev pub Stands : List ProofEntry → Equation → Type 0
Stands proofs e = (p : ℕ) × (p < length proofs) × (equation_at proofs p ≡ e)

pub stands_cases : (proofs : List ProofEntry) (e : Equation) → Stands proofs e ⊎ ((p : ℕ) → p < length proofs → equation_at proofs p ≢ e)
stands_cases [] e = inr (λ p h. absurd (omega arith))
stands_cases (x ∷ proofs) e = elim (equation_cases x.equation e) [
  | inl q ↦ inl (0, omega arith, q)
  | inr n ↦ elim (stands_cases proofs e) [
    | inl s ↦ inl (suc s.0, omega (arith, s.1), s.2)
    | inr m ↦ inr (other n m)
  ]
]
  where
    other : x.equation ≢ e → ((p : ℕ) → p < length proofs → equation_at proofs p ≢ e) → (p : ℕ) → p < length (x ∷ proofs) → equation_at (x ∷ proofs) p ≢ e
    other n m zero h = n
    other n m (suc p) h = m p (omega arith)

-- a list that is proved, and goes on from another without asserting more
pub record Grown (nodes : List DTerm) (proofs longer : List ProofEntry) : Type 0 where
  pub more : List ProofEntry
  pub is : longer ≡ proofs ++ more
  pub proved : Proved nodes longer
  pub asserts : asserted nodes longer ≡ asserted nodes proofs

-- and has an equation
pub record Reached (nodes : List DTerm) (proofs : List ProofEntry) (e : Equation) : Type 0 where
  pub longer : List ProofEntry
  pub grown : Grown nodes proofs longer
  pub stands : Stands longer e

grown-same : (nodes : List DTerm) (proofs : List ProofEntry) → Proved nodes proofs → Grown nodes proofs proofs
grown-same nodes proofs p = record { more = []; is = sym (append-nil proofs); proved = p; asserts = refl }

pub grown-then : (nodes : List DTerm) (f g h : List ProofEntry) → Grown nodes f g → Grown nodes g h → Grown nodes f h
grown-then nodes f g h a b = record {
  more = a.more ++ b.more;
  is = b.is ∙ (ap (λ l. l ++ b.more) a.is ∙ append_assoc f a.more b.more);
  proved = b.proved;
  asserts = b.asserts ∙ a.asserts;
}

grown-length : (nodes : List DTerm) (proofs longer : List ProofEntry) → Grown nodes proofs longer → length proofs ≤ length longer
grown-length nodes proofs longer g =
    let e : length longer ≡ length (proofs ++ g.more) = ap (λ (l : List ProofEntry). length l) g.is in
    let m : length (proofs ++ g.more) ≡ length proofs + length g.more = length-append proofs g.more in
    omega arith

grown-equation : (nodes : List DTerm) (proofs longer : List ProofEntry) → Grown nodes proofs longer → (q : ℕ) → q < length proofs → equation_at longer q ≡ equation_at proofs q
grown-equation nodes proofs longer g q h =
    ap (λ l. equation_at l q) g.is
    ∙ ap (λ (x : ProofEntry). x.equation) (get_or_append_left proofs g.more (record { equation = record { left = 0; right = 0; pairs = [] }; step = explicit }) q h)

grown-exact : (nodes : List DTerm) (found : List Entry) (proofs longer : List ProofEntry) → Grown nodes proofs longer → Exact nodes found proofs → Exact nodes found longer
grown-exact nodes found proofs longer g x = record {
  in_range = λ i h. let l : (entry_at found i).proof < length proofs = x.in_range i h in let m : length proofs ≤ length longer = grown-length nodes proofs longer g in omega arith;
  equations = λ i h. grown-equation nodes proofs longer g (entry_at found i).proof (x.in_range i h) ∙ x.equations i h;
}

-- an equation that stands in a list stands in each that goes on from it
pub grown-stands : (nodes : List DTerm) (proofs longer : List ProofEntry) (e : Equation) → Grown nodes proofs longer → Stands proofs e → Stands longer e
grown-stands nodes proofs longer e g s =
    let l : s.0 < length proofs = s.1 in
    let m : length proofs ≤ length longer = grown-length nodes proofs longer g in
    (s.0, omega arith, grown-equation nodes proofs longer g s.0 s.1 ∙ s.2)

-- a step that asserts nothing can be entered
enter : (nodes : List DTerm) (proofs : List ProofEntry) → Proved nodes proofs → (e : Equation) → IsOver nodes e → (s : Step) → ((pair : DTerm × DTerm) → if_explicit s pair ≡ None) → IsStepFor nodes proofs (length proofs) e s → Reached nodes proofs e
enter nodes proofs p e o s silent c = elim (stands_cases proofs e) [
  | inl at ↦ record { longer = proofs; grown = grown-same nodes proofs p; stands = at }
  | inr new ↦
      let entry : ProofEntry = record { equation = e; step = s } in
      let l : length (proofs ++ entry ∷ []) ≡ suc (length proofs) = longer-length proofs entry in
      record {
        longer = proofs ++ entry ∷ [];
        grown = record {
          more = entry ∷ [];
          is = refl;
          proved = entered-proved nodes proofs entry p (record { over = o; proved = c; is_new = new });
          asserts = entered-asserted nodes proofs entry ∙ (ap (λ q. asserted nodes proofs ++ cons_option q []) (silent (term_pair nodes e)) ∙ append-nil (asserted nodes proofs));
        };
        stands = (length proofs, omega arith, equation-last proofs entry);
      }
]

pub enter_transitive : (nodes : List DTerm) (proofs : List ProofEntry) → Proved nodes proofs → (e first second : Equation) → IsOver nodes e → IsTransitive e first second → Stands proofs first → Stands proofs second → Reached nodes proofs e
enter_transitive nodes proofs p e first second o t a b =
    enter nodes proofs p e o (transitive a.0 b.0) (λ pair. refl)
    (a.1, b.1, subst (λ q. IsTransitive e q (equation_at proofs b.0)) (sym a.2) (subst (IsTransitive e first) (sym b.2) t))

pub enter_turned : (nodes : List DTerm) (proofs : List ProofEntry) → Proved nodes proofs → (e : Equation) → IsOver nodes e → Stands proofs e → Reached nodes proofs (turned_equation nodes e)
enter_turned nodes proofs p e o a =
    let P : List ℕ = canonical_slots nodes e.left in
    let Q : List ℕ = canonical_slots nodes e.right in
    let twice : e ≡ turned_equation nodes (turned_equation nodes e) = λ i. record { left = e.left; right = e.right; pairs = sym (turned-turned P Q e.pairs o.pairs) i } in
    enter nodes proofs p (turned_equation nodes e) (record { left = o.right; right = o.left; pairs = turned-partial P Q e.pairs o.pairs }) (symmetric a.0) (λ pair. refl) (a.1, a.2 ∙ twice)

-- one step after another
reach-then : (nodes : List DTerm) (proofs longer : List ProofEntry) (e : Equation) → Grown nodes proofs longer → Reached nodes longer e → Reached nodes proofs e
reach-then nodes proofs longer e g r = record { longer = r.longer; grown = grown-then nodes proofs longer r.longer g r.grown; stands = r.stands }

-- the equation of two full ids is over their classes
pub over-full : (nodes : List DTerm) (a b : Applied) → IsFull nodes a → IsFull nodes b → IsOver nodes (equation_of a b)
over-full nodes a b fa fb = record {
  left = fa.in_range;
  right = fb.in_range;
  pairs = same_names-partial (canonical_slots nodes a.0) (canonical_slots nodes b.0) a.1 b.1 (full_map nodes a fa) (full_map nodes b fb);
}

module _ (nodes : List DTerm) (found : List Entry) (linked : Linked nodes found) where
  -- what a find says can be entered
  reach_find : (i : ℕ) → i < length nodes → (proofs : List ProofEntry) → Proved nodes proofs → Exact nodes found proofs → Reached nodes proofs (find_equation nodes found i)
  reach_find = along nodes found (leads nodes found linked) (λ i. (proofs : List ProofEntry) → Proved nodes proofs → Exact nodes found proofs → Reached nodes proofs (find_equation nodes found i))
      (λ i h l proofs p x. record {
        longer = proofs;
        grown = grown-same nodes proofs p;
        stands = ((entry_at found i).proof, x.in_range i h, x.equations i h ∙ sym (find_equation-live nodes found linked i h l));
      })
      (λ i h d next proofs p x.
      let j : ℕ = (entry_at found i).class in
      let r : Reached nodes proofs (find_equation nodes found j) = next proofs p x in
      let s : Stands proofs (entry_equation nodes found i) = ((entry_at found i).proof, x.in_range i h, x.equations i h) in
      reach-then nodes proofs r.longer (find_equation nodes found i) r.grown
      (enter_transitive nodes r.longer r.grown.proved (find_equation nodes found i) (entry_equation nodes found i) (find_equation nodes found j) (find_equation-over nodes found linked i h) (find_equation-follows nodes found linked i h)
      (grown-stands nodes proofs r.longer (entry_equation nodes found i) r.grown s) r.stands))

  -- and so can the equation of two full ids that find alike
  reach_alike : (a b : Applied) → IsFull nodes a → IsFull nodes b → find found a ≡ find found b → (proofs : List ProofEntry) → Proved nodes proofs → Exact nodes found proofs → Reached nodes proofs (equation_of a b)
  reach_alike a b fa fb e proofs p x =
      let f : Equation = find_equation nodes found a.0 in
      let g : Equation = find_equation nodes found b.0 in
      let first : Reached nodes proofs f = reach_find a.0 fa.in_range proofs p x in
      let second : Reached nodes first.longer g = reach_find b.0 fb.in_range first.longer first.grown.proved (grown-exact nodes found proofs first.longer first.grown x) in
      let third : Reached nodes second.longer (turned_equation nodes g) = enter_turned nodes second.longer second.grown.proved g (find_equation-over nodes found linked b.0 fb.in_range) second.stands in
      let two : Grown nodes first.longer third.longer = grown-then nodes first.longer second.longer third.longer second.grown third.grown in
      reach-then nodes proofs third.longer (equation_of a b) (grown-then nodes proofs first.longer third.longer first.grown two)
      (enter_transitive nodes third.longer third.grown.proved (equation_of a b) f (turned_equation nodes g) (over-full nodes a b fa fb) (found_alike-join nodes found linked a b fa fb e)
      (grown-stands nodes first.longer third.longer f two first.stands) third.stands)

explained : (nodes : List DTerm) (proofs : List ProofEntry) (e : Equation) → Reached nodes proofs e → Explained nodes proofs e
explained nodes proofs e r = record {
  more = r.grown.more;
  proved = subst (Proved nodes) r.grown.is r.grown.proved;
  asserts_nothing = ap (asserted nodes) (sym r.grown.is) ∙ r.grown.asserts;
  number = r.stands.0;
  in_range = subst (λ (l : List ProofEntry). r.stands.0 < length l) r.grown.is r.stands.1;
  equation = ap (λ l. equation_at l r.stands.0) (sym r.grown.is) ∙ r.stands.2;
}

pub found_alike-explained : (nodes : List DTerm) (found : List Entry) (proofs : List ProofEntry) → Linked nodes found → Proved nodes proofs → Exact nodes found proofs → (a b : Applied) → IsFull nodes a → IsFull nodes b → find found a ≡ find found b → Explained nodes proofs (equation_of a b)
found_alike-explained nodes found proofs l p x a b fa fb e = explained nodes proofs (equation_of a b) (reach_alike nodes found l a b fa fb e proofs p x)

-- what an equation of the list says of the found classes can be entered
pub found_equation-explained : (nodes : List DTerm) (found : List Entry) (proofs : List ProofEntry) → Linked nodes found → Proved nodes proofs → Exact nodes found proofs → (q : ℕ) → q < length proofs → Explained nodes proofs (found_equation nodes found (equation_at proofs q))
found_equation-explained nodes found proofs l p x q h =
    let e : Equation = equation_at proofs q in
    let o : IsOver nodes e = p.over q h in
    let f : Equation = find_equation nodes found e.left in
    let g : Equation = find_equation nodes found e.right in
    let half : Equation = half_found_equation nodes found e in
    let first : Reached nodes proofs f = reach_find nodes found l e.left o.left proofs p x in
    let second : Reached nodes first.longer (turned_equation nodes f) = enter_turned nodes first.longer first.grown.proved f (find_equation-over nodes found l e.left o.left) first.stands in
    let two : Grown nodes proofs second.longer = grown-then nodes proofs first.longer second.longer first.grown second.grown in
    let third : Reached nodes second.longer half = enter_transitive nodes second.longer second.grown.proved half (turned_equation nodes f) e (half-over nodes found l e o) (half-step nodes found l e o) second.stands (grown-stands nodes proofs second.longer e two (q, h, refl)) in
    let three : Grown nodes proofs third.longer = grown-then nodes proofs second.longer third.longer two third.grown in
    let fourth : Reached nodes third.longer g = reach_find nodes found l e.right o.right third.longer third.grown.proved (grown-exact nodes found proofs third.longer three x) in
    let four : Grown nodes proofs fourth.longer = grown-then nodes proofs third.longer fourth.longer three fourth.grown in
    explained nodes proofs (found_equation nodes found e)
    (reach-then nodes proofs fourth.longer (found_equation nodes found e) four
    (enter_transitive nodes fourth.longer fourth.grown.proved (found_equation nodes found e) half g (found_equation-over nodes found l e o) (found-step nodes found l e)
    (grown-stands nodes third.longer fourth.longer half fourth.grown third.stands) fourth.stands))

-- numbers at which the equations stand
record PartsReached (nodes : List DTerm) (proofs : List ProofEntry) (parts : List Equation) : Type 0 where
  longer : List ProofEntry
  grown : Grown nodes proofs longer
  numbers : List ℕ
  in_range : (q : ℕ) → Contains numbers q → q < length longer
  equations : map (equation_at longer) numbers ≡ parts

reach_parts : (nodes : List DTerm) (found : List Entry) → Linked nodes found → (parts : List Equation) → ((q : Equation) → Contains parts q → IsOfFoundAlike nodes found q) → (proofs : List ProofEntry) → Proved nodes proofs → Exact nodes found proofs → PartsReached nodes proofs parts
reach_parts nodes found l [] h proofs p x = record { longer = proofs; grown = grown-same nodes proofs p; numbers = []; in_range = λ q c. absurd (Contains-nil q c); equations = refl }
reach_parts nodes found l (e ∷ parts) h proofs p x =
    let a : IsOfFoundAlike nodes found e = h e (contains_head e parts) in
    let first : Reached nodes proofs e = subst (Reached nodes proofs) a.equation (reach_alike nodes found l a.left a.right a.left_full a.right_full a.alike proofs p x) in
    let more : PartsReached nodes first.longer parts = reach_parts nodes found l parts (λ q c. h q (contains_tail e parts q c)) first.longer first.grown.proved (grown-exact nodes found proofs first.longer first.grown x) in
    let s : Stands more.longer e = grown-stands nodes first.longer more.longer e more.grown first.stands in
    record {
      longer = more.longer;
      grown = grown-then nodes proofs first.longer more.longer first.grown more.grown;
      numbers = s.0 ∷ more.numbers;
      in_range = λ q c. elim (contains_cases s.0 more.numbers q c) [
        | inl m ↦ subst (λ n. n < length more.longer) (sym m) s.1
        | inr m ↦ more.in_range q m
      ];
      equations = λ i. s.2 i ∷ more.equations i;
    }

-- and so can an equation that is congruent by finds
pub by_finds-explained : (nodes : List DTerm) (found : List Entry) (proofs : List ProofEntry) → Linked nodes found → Proved nodes proofs → Exact nodes found proofs → (e : Equation) → IsCongruentByFinds nodes found e → Explained nodes proofs e
by_finds-explained nodes found proofs l p x e c =
    let r : PartsReached nodes proofs c.parts = reach_parts nodes found l c.parts c.alike proofs p x in
    let o : IsOver nodes e = subst (IsOver nodes) c.congruent.equation (over-full nodes c.congruent.left c.congruent.right c.congruent.left_full c.congruent.right_full) in
    explained nodes proofs e
    (reach-then nodes proofs r.longer e r.grown
    (enter nodes r.longer r.grown.proved e o (congruent r.numbers) (λ pair. refl) (r.in_range, subst (IsCongruent nodes e) (sym r.equations) c.congruent)))

-- what a find says can be entered
pub find_equation-explained : (nodes : List DTerm) (found : List Entry) (proofs : List ProofEntry) → Linked nodes found → Proved nodes proofs → Exact nodes found proofs → (i : ℕ) → i < length nodes → Explained nodes proofs (find_equation nodes found i)
find_equation-explained nodes found proofs l p x i h = explained nodes proofs (find_equation nodes found i) (reach_find nodes found l i h proofs p x)

-- A graph at rest where a slot was dropped under a binder, built step by step: what was never added is looked up in it.
use Rattle.std.proofs.Common.{◌≡◌, ℕ, zero, suc, ◌<◌, List, [], ◌∷◌, Some, refl, sym, ◌∙◌, ap, subst, arith, inl, inr, ◌⊎◌}
use Rattle.std.specs.Prelude.{Contains}
use Rattle.std.proofs.lemmas.Bool.{false≢true}
use Rattle.slotted_lists.proofs.Contained.{contains_head, contains_tail, contains_cases, Contains-nil}
use Rattle.slotted_theory.specs.Nameless.{DTerm, stop, place, scope}
use Rattle.slotted_theory.specs.Shape.{shape}
use Rattle.slotted_theory.specs.Derives.{Equal, listed, within, moving, equal_done, equal_child, equal_bind}
use Rattle.slotted_theory.specs.FiniteMaps.{filled}
use Rattle.slotted_theory.proofs.Filled.{filled-injective}
use Rattle.slotted_theory.proofs.Values.{node, child_before}
use Rattle.slotted_model.specs.Applied.{Applied, as_term}
use Rattle.slotted_model.specs.Classes.{canonical_node, term_of, IsFull}
use Rattle.slotted_model.specs.Growth.{IsNew, Added}
use Rattle.slotted_model.specs.Correspondence.{AllDifferent, identity, IsPartialInjection}
use Rattle.slotted_model.specs.Find.{Entry, find}
use Rattle.slotted_model.specs.ProofList.{Equation, ProofEntry, explicit, reflexive, equation_of, equation_at, step_at, asserted}
use Rattle.slotted_model.specs.Link.{CanEnter, IsLater, CanLink, found_equation, with_link}
use Rattle.slotted_model.specs.Sound.{Sound}
use Rattle.slotted_model.specs.State.{Row, State, sources, look_up_tree}
use Rattle.slotted_model.specs.Rest.{IsValidIn, UpToSymmetries, found_alike, LinkedTo, IsRow, IsCurrent, Filed, AtRest, IsAffected}
use Rattle.slotted_model.proofs.Represented.Growing.{added, Canonical-nil}
use Rattle.slotted_model.proofs.Finds.NormalIds.{full-is_valid}
use Rattle.slotted_model.proofs.Finds.Uniting.{linked-alike}
use Rattle.slotted_model.proofs.Rebuilding.UpTo.{linked_to-same}
use Rattle.slotted_model.proofs.Complete.Spreading.{is_affected-iff}
use Rattle.slotted_model.proofs.Complete.AtRest.{rest-look_up}
use Rattle.slotted_model.proofs.Finds.Keeping.{nothing-sound, new_class-sound, entered-sound, link-sound}

-- f x y for the slots 0 and 1, g x for the slot 2, and lam y. f x y for the slot 3
abbrev f_x_y : DTerm
f_x_y = node 3 [] (place 0 (place 1 stop))

abbrev g_x : DTerm
g_x = node 4 [] (place 2 stop)

abbrev f_child : Applied
f_child = (0, (0, 4) ∷ (1, 0) ∷ [])

abbrev pub lam_f : DTerm
lam_f = node 5 [] (scope (child_before (as_term f_child) stop) stop)

abbrev one_node : List DTerm
one_node = f_x_y ∷ []

abbrev two_nodes : List DTerm
two_nodes = f_x_y ∷ g_x ∷ []

abbrev pub nodes : List DTerm
nodes = f_x_y ∷ g_x ∷ lam_f ∷ []

abbrev alive : ℕ → List ℕ → ℕ → Entry
alive i slots proof = record { class = i; pairs = identity slots; proof = proof; died = 0 }

abbrev itself : ℕ → List ℕ → ProofEntry
itself i slots = record { equation = record { left = i; right = i; pairs = identity slots }; step = reflexive }

f_is_new : IsNew [] f_x_y
f_is_new = record { operator = omega arith; children = tt; shape_is_new = λ i l p. omega arith }

with_f : Added [] one_node f_x_y
with_f = added [] f_x_y Canonical-nil f_is_new

operators_differ : {d e : DTerm} → d ≡ e → d.op ≡ e.op
operators_differ p = ap (λ (t : DTerm). t.op) p

g_is_new : IsNew one_node g_x
g_is_new = record { operator = omega arith; children = tt; shape_is_new = other }
  where
    other : (i : ℕ) → i < 1 → ¬ (shape (canonical_node one_node i) ≡ shape g_x)
    other zero l p = let e : ◌≡◌ {A = ℕ} 3 4 = operators_differ p in omega arith
    other (suc i) l p = omega arith

with_g : Added one_node two_nodes g_x
with_g = added one_node g_x with_f.canonical g_is_new

f_child_full : IsFull two_nodes f_child
f_child_full = record { in_range = omega arith; slots = refl; injective = (different, (λ k. k, tt)) }
  where
    different : ◌≡◌ {A = ℕ} 4 0 ⊎ ⊥ → ⊥
    different (inl e) = omega arith
    different (inr k) = k

lam_is_new : IsNew two_nodes lam_f
lam_is_new = record { operator = omega arith; children = (((f_child, refl, f_child_full), tt), tt); shape_is_new = other }
  where
    other : (i : ℕ) → i < 2 → ¬ (shape (canonical_node two_nodes i) ≡ shape lam_f)
    other zero l p = let e : ◌≡◌ {A = ℕ} 3 5 = operators_differ p in omega arith
    other (suc zero) l p = let e : ◌≡◌ {A = ℕ} 4 5 = operators_differ p in omega arith
    other (suc (suc i)) l p = omega arith

with_lam : Added two_nodes nodes lam_f
with_lam = added two_nodes lam_f with_g.canonical lam_is_new

-- the graph before the union
abbrev pub before : List Entry
before = alive 0 (0 ∷ 1 ∷ []) 0 ∷ alive 1 (2 ∷ []) 1 ∷ alive 2 (3 ∷ []) 2 ∷ []

abbrev reflexive_proofs : List ProofEntry
reflexive_proofs = itself 0 (0 ∷ 1 ∷ []) ∷ itself 1 (2 ∷ []) ∷ itself 2 (3 ∷ []) ∷ []

before_sound : Sound nodes before reflexive_proofs
before_sound =
    new_class-sound two_nodes nodes (alive 0 (0 ∷ 1 ∷ []) 0 ∷ alive 1 (2 ∷ []) 1 ∷ []) (itself 0 (0 ∷ 1 ∷ []) ∷ itself 1 (2 ∷ []) ∷ [])
    (new_class-sound one_node two_nodes (alive 0 (0 ∷ 1 ∷ []) 0 ∷ []) (itself 0 (0 ∷ 1 ∷ []) ∷ [])
    (new_class-sound [] one_node [] [] nothing-sound with_f.canonical with_f.extends refl) with_g.canonical with_g.extends refl) with_lam.canonical with_lam.extends refl

-- f x y and g x are asserted equal
abbrev pub f_is_g : Equation
f_is_g = record { left = 0; right = 1; pairs = (0, 2) ∷ [] }

abbrev assertion : ProofEntry
assertion = record { equation = f_is_g; step = explicit }

abbrev pub proofs : List ProofEntry
proofs = itself 0 (0 ∷ 1 ∷ []) ∷ itself 1 (2 ∷ []) ∷ itself 2 (3 ∷ []) ∷ assertion ∷ []

pub one_of : {X : Type 0} {x y : X} → Contains (x ∷ []) y → y ≡ x
one_of {X} {x} {y} c = elim (contains_cases x [] y c) [
  | inl e ↦ e
  | inr k ↦ absurd (Contains-nil y k)
]

f_is_g-partial : IsPartialInjection (0 ∷ 1 ∷ []) (2 ∷ []) ((0, 2) ∷ [])
f_is_g-partial = record {
  in_order = refl;
  within = λ s t c. subst (Contains (2 ∷ [])) (sym (ap (λ (p : ℕ × ℕ). p.1) (one_of c))) (contains_head 2 []);
  injective = λ s r t c d. ap (λ (p : ℕ × ℕ). p.0) (one_of c) ∙ sym (ap (λ (p : ℕ × ℕ). p.0) (one_of d));
}

can_assert : CanEnter nodes reflexive_proofs assertion
can_assert = record { over = record { left = omega arith; right = omega arith; pairs = f_is_g-partial }; proved = tt; is_new = other }
  where
    other : (p : ℕ) → p < 3 → equation_at reflexive_proofs p ≡ f_is_g → ⊥
    other zero l e = let n : ◌≡◌ {A = ℕ} 0 1 = ap (λ (x : Equation). x.right) e in omega arith
    other (suc zero) l e = let n : ◌≡◌ {A = ℕ} 1 0 = ap (λ (x : Equation). x.left) e in omega arith
    other (suc (suc zero)) l e = let n : ◌≡◌ {A = ℕ} 2 0 = ap (λ (x : Equation). x.left) e in omega arith
    other (suc (suc (suc p))) l e = omega arith

-- f leads to g, and its slot 1 is dropped
pub can_link : CanLink nodes before f_is_g
can_link = record {
  over = record { left = omega arith; right = omega arith; pairs = f_is_g-partial };
  left_lives = refl;
  right_lives = refl;
  different = λ e. omega arith;
  from = λ s c. subst (Contains (0 ∷ 1 ∷ [])) (sym (one_of c)) (contains_head 0 (1 ∷ []));
  onto = λ t c. c;
}

none_died : IsLater before 0
none_died zero l d = absurd (d refl)
none_died (suc zero) l d = absurd (d refl)
none_died (suc (suc zero)) l d = absurd (d refl)
none_died (suc (suc (suc i))) l d = absurd (omega arith)

abbrev pub after : List Entry
after = with_link nodes before f_is_g 3 0

pub after_sound : Sound nodes after proofs
after_sound = link-sound nodes before proofs f_is_g 3 0 (entered-sound nodes before reflexive_proofs assertion before_sound can_assert) can_link none_died (omega arith) refl

-- the filed nodes: f of two names, g of one, and a binder over g of a name from outside
abbrev pub row_f : Row
row_f = record { shape = node 3 [] (place 0 (place 1 stop)); source = 0; slots = (0, 0) ∷ (1, 1) ∷ [] }

abbrev pub row_g : Row
row_g = record { shape = node 4 [] (place 0 stop); source = 1; slots = (0, 2) ∷ [] }

abbrev pub row_lam : Row
row_lam = record { shape = node 5 [] (scope (child_before (as_term (1, (2, 1) ∷ [])) stop) stop); source = 2; slots = (0, 3) ∷ [] }

abbrev pub graph : State
graph = record { nodes = nodes; found = after; proofs = proofs; rows = row_f ∷ row_g ∷ row_lam ∷ []; waiting = []; symmetries = [] }

pub three_of : {X : Type 0} (P : X → Type 0) (x y z : X) → P x → P y → P z → (w : X) → Contains (x ∷ y ∷ z ∷ []) w → P w
three_of P x y z p q r w c = elim (contains_cases x (y ∷ z ∷ []) w c) [
  | inl e ↦ subst P (sym e) p
  | inr c1 ↦ elim (contains_cases y (z ∷ []) w c1) [
    | inl e ↦ subst P (sym e) q
    | inr c2 ↦ subst P (sym (one_of c2)) r
  ]
]

g_child-valid : IsValidIn graph (1, (2, 1) ∷ [])
g_child-valid = record { in_range = omega arith; ascending = (tt, tt); injective = (λ k. k, tt); has_slots = λ s c. c; within = λ s c. c }

is_row_f : IsRow graph row_f
is_row_f = record {
  in_range = omega arith;
  operator = omega arith;
  children = tt;
  is_shape = refl;
  numbers = refl;
  injective = (different, (λ k. k, tt));
  within = λ s c. c;
  normal_form = refl;
}
  where
    different : ◌≡◌ {A = ℕ} 0 1 ⊎ ⊥ → ⊥
    different (inl e) = omega arith
    different (inr k) = k

is_row_g : IsRow graph row_g
is_row_g = record {
  in_range = omega arith;
  operator = omega arith;
  children = tt;
  is_shape = refl;
  numbers = refl;
  injective = (λ k. k, tt);
  within = λ s c. c;
  normal_form = refl;
}

is_row_lam : IsRow graph row_lam
is_row_lam = record {
  in_range = omega arith;
  operator = omega arith;
  children = ((((1, (2, 1) ∷ []), refl, g_child-valid), tt), tt);
  is_shape = refl;
  numbers = refl;
  injective = (λ k. k, tt);
  within = λ s c. c;
  normal_form = refl;
}

is_current : (r : Row) → Contains graph.rows r → IsCurrent graph r
is_current = three_of (IsCurrent graph) row_f row_g row_lam
    (record { in_normal_form = refl; covered = λ s c. subst (Contains (0 ∷ 1 ∷ [])) (sym (one_of c)) (contains_head 0 (1 ∷ [])) })
    (record { in_normal_form = refl; covered = λ s c. c })
    (record { in_normal_form = refl; covered = λ s c. c })

-- no two rows have one shape
shapes_differ : (r q : Row) → Contains graph.rows r → Contains graph.rows q → r.shape ≡ q.shape → r.source ≡ q.source
shapes_differ r q c d = three_of (λ x. x.shape ≡ q.shape → x.source ≡ q.source) row_f row_g row_lam
    (three_of (λ y. row_f.shape ≡ y.shape → row_f.source ≡ y.source) row_f row_g row_lam (λ e. refl) (λ e. let n : ◌≡◌ {A = ℕ} 3 4 = operators_differ e in omega arith) (λ e. let n : ◌≡◌ {A = ℕ} 3 5 = operators_differ e in omega arith) q d)
    (three_of (λ y. row_g.shape ≡ y.shape → row_g.source ≡ y.source) row_f row_g row_lam (λ e. let n : ◌≡◌ {A = ℕ} 4 3 = operators_differ e in omega arith) (λ e. refl) (λ e. let n : ◌≡◌ {A = ℕ} 4 5 = operators_differ e in omega arith) q d)
    (three_of (λ y. row_lam.shape ≡ y.shape → row_lam.source ≡ y.source) row_f row_g row_lam (λ e. let n : ◌≡◌ {A = ℕ} 5 3 = operators_differ e in omega arith) (λ e. let n : ◌≡◌ {A = ℕ} 5 4 = operators_differ e in omega arith) (λ e. refl) q d)
    r c

sources_differ : AllDifferent (0 ∷ 1 ∷ 2 ∷ [])
sources_differ = (zero_is, (one_is, (Contains-nil 2, tt)))
  where
    zero_is : Contains {X = ℕ} (1 ∷ 2 ∷ []) 0 → ⊥
    zero_is c = elim (contains_cases 1 (2 ∷ []) 0 c) [
      | inl e ↦ omega arith
      | inr k ↦ let e : ◌≡◌ {A = ℕ} 0 2 = one_of k in omega arith
    ]

    one_is : Contains {X = ℕ} (2 ∷ []) 1 → ⊥
    one_is c = let e : ◌≡◌ {A = ℕ} 1 2 = one_of c in omega arith

filed : Filed graph
filed = record {
  each = three_of (IsRow graph) row_f row_g row_lam is_row_f is_row_g is_row_lam;
  once = sources_differ;
  shapes = shapes_differ;
  waits_once = tt;
  waits_for_row = λ o c. absurd (Contains-nil o c);
  current = λ r c n. is_current r c;
}

-- each class has a row of its own
own_row : (i : ℕ) → i < 3 → (o : ℕ) × Contains (sources graph.rows) o × LinkedTo graph i o
own_row i h = (i, there i h, linked_to-same graph after_sound.linked i h)
  where
    there : (i : ℕ) → i < 3 → Contains {X = ℕ} (0 ∷ 1 ∷ 2 ∷ []) i
    there zero l = contains_head 0 (1 ∷ 2 ∷ [])
    there (suc zero) l = contains_tail 0 (1 ∷ 2 ∷ []) 1 (contains_head 1 (2 ∷ []))
    there (suc (suc zero)) l = contains_tail 0 (1 ∷ 2 ∷ []) 2 (contains_tail 1 (2 ∷ []) 2 (contains_head 2 []))
    there (suc (suc (suc i))) l = absurd (omega arith)

-- the sides of the one asserted equation find alike, whatever their names
sides_alike : (p : ℕ) → p < 4 → step_at proofs p ≡ explicit → (a b : Applied) → IsFull nodes a → IsFull nodes b → equation_of a b ≡ equation_at proofs p → UpToSymmetries graph a b
sides_alike zero l e a b fa fb q = let n : ⊥ = cc in absurd n
sides_alike (suc zero) l e a b fa fb q = let n : ⊥ = cc in absurd n
sides_alike (suc (suc zero)) l e a b fa fb q = let n : ⊥ = cc in absurd n
sides_alike (suc (suc (suc zero))) l e a b fa fb q =
    found_alike (full-is_valid nodes after after_sound.linked a fa) (full-is_valid nodes after after_sound.linked b fb)
    (subst (λ (w : Equation). find (with_link nodes before (found_equation nodes before w) 3 0) a ≡ find (with_link nodes before (found_equation nodes before w) 3 0) b) q
    (linked-alike nodes before before_sound.linked a b fa fb 3 0 (subst (λ w. CanLink nodes before (found_equation nodes before w)) (sym q) can_link) none_died))
sides_alike (suc (suc (suc (suc p)))) l e a b fa fb q = absurd (omega arith)

pub at_rest : AtRest graph
at_rest = record {
  sane = record {
    sound = after_sound;
    filed = filed;
    each_listed = λ y c. absurd (Contains-nil y c);
    listed_once = λ y z c. absurd (Contains-nil y c);
  };
  represents = record { linked = own_row; asserted = sides_alike };
  nothing_waits = refl;
  aligned = λ y c. absurd (Contains-nil y c);
}

-- lam y. g x, which was never added, is equal to lam y. f x y
abbrev pub lam_g : DTerm
lam_g = node 5 [] (scope (child_before (node 4 [] (place 4 stop)) stop) stop)

abbrev pub lam_id : Applied
lam_id = (2, (3, 3) ∷ [])

lams_equal : Equal (asserted nodes proofs) (term_of nodes lam_id) lam_g
lams_equal =
    within (equal_bind (equal_child {d = node 3 [] (place 4 (place 0 stop))} {e = node 4 [] (place 4 stop)}
    (moving (filled f_child.1) (filled-injective f_child.1 f_child_full.injective) (listed (contains_head (node 3 [] (place 0 (place 1 stop)), node 4 [] (place 0 stop)) []))) equal_done) equal_done)

-- so it is looked up as that, by completeness, and by the rows
looked_up : look_up_tree graph lam_g ≡ Some (find after lam_id)
looked_up = rest-look_up graph at_rest lam_id (record { in_range = omega arith; slots = refl; injective = (λ k. k, tt) }) unaffected lam_g (record { operator = omega arith; children = ((omega arith, tt, tt), tt) }) lams_equal
  where
    unaffected : ¬ IsAffected graph 2
    unaffected a = false≢true ((is_affected-iff graph 2).1 a)

computed : look_up_tree graph lam_g ≡ Some lam_id
computed = refl

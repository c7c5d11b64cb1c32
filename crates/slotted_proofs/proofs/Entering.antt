-- A graph that enters provable statements keeps its proof list proved.
use Rattle.std.proofs.Common.{◌≡◌, ◌≢◌, ℕ, zero, suc, ◌+◌, ◌<◌, List, [], ◌∷◌, ◌++◌, length, Option, refl, sym, ap, ◌∙◌, subst, inl, inr, arith, length-append}
use Rattle.std.specs.Prelude.{◌⊎◌}
use Rattle.std.specs.List.{cons_option}
use Rattle.std.proofs.lemmas.List.{map-append, append-nil}
use Rattle.std.proofs.lemmas.Bool.{cases_eq}
use Rattle.slotted_theory.specs.Nameless.{DTerm}
use Rattle.slotted_model.specs.Applied.{Applied}
use Rattle.slotted_model.specs.Classes.{canonical_slots, IsFull}
use Rattle.slotted_model.specs.Ascending.{names}
use Rattle.slotted_model.specs.Correspondence.{IsPartialInjection, turned}
use Rattle.slotted_model.specs.Find.{Entry}
use Rattle.slotted_model.specs.Growth.{Extends}
use Rattle.slotted_model.specs.Link.{CanEnter, reflexive_equation}
use Rattle.slotted_model.specs.ProofList.{Equation, Step, explicit, reflexive, symmetric, transitive, congruent, IsOver, IsTransitive, IsStepFor, Proved, equation_at, turned_equation, asserted, if_explicit, term_pair}
use Rattle.slotted_model.specs.Sound.{Sound}
use Rattle.slotted_model.proofs.Correspondences.FullIds.{full_map}
use Rattle.slotted_model.proofs.Correspondences.FullMaps.{same_names-partial}
use Rattle.slotted_model.proofs.Correspondences.PartialInjections.{identity-partial, turned-partial, turned-turned, composite-partial}
use Rattle.slotted_model.proofs.Correspondences.Joining.{composite-can_join}
use Rattle.slotted_model.proofs.Finds.Entering.{entered-proved, entered-exact, entered-asserted}
use Rattle.slotted_model.proofs.Finds.NewClasses.{proved-newer}
use Rattle.slotted_proofs.specs.Equations.{Statement, Meets}
use Rattle.slotted_proofs.specs.Entries.{Proven, entry_of, entries_of, statement_at, Stands, IsNew, Grows, Enters, asserted_entry, reflexive_entry, turned_entry, composite_entry}
use Rattle.slotted_proofs.specs.Proving.{IsCanonical, IsProvable, IsProved}

-- what stands at a number, in both words
pub equation_at-entries : (list : List Proven) (p : ℕ) → equation_at (entries_of list) p ≡ (statement_at list p).equation
equation_at-entries [] p = refl
equation_at-entries (x ∷ list) zero = refl
equation_at-entries (x ∷ list) (suc p) = equation_at-entries list p

pub length-entries : (list : List Proven) → length (entries_of list) ≡ length list
length-entries [] = refl
length-entries (x ∷ list) = ap suc (length-entries list)

-- the list without entries is proved
pub nothing_proved : (nodes : List DTerm) → IsProved nodes []
nothing_proved nodes = record {
  proved = record { over = λ p h. absurd (omega arith); steps = λ p h. absurd (omega arith); once = λ p q h k e. absurd (omega arith) };
  canonical = λ p h. absurd (omega arith);
}

-- full ids may be asserted to be equal
pub asserted_provable : (nodes : List DTerm) (list : List Proven) (a b : Applied) (text : Option (List ℕ)) → IsFull nodes a → IsFull nodes b → IsProvable nodes list (asserted_entry a b text)
asserted_provable nodes list a b text f g = record {
  canonical = record { left = f.slots; right = g.slots };
  over = record {
    left = f.in_range;
    right = g.in_range;
    pairs = same_names-partial (canonical_slots nodes a.0) (canonical_slots nodes b.0) a.1 b.1 (full_map nodes a f) (full_map nodes b g);
  };
  step = tt;
}

-- each class equals itself
pub reflexive_provable : (nodes : List DTerm) (list : List Proven) (i : ℕ) → i < length nodes → IsProvable nodes list (reflexive_entry i (canonical_slots nodes i)) × ((reflexive_entry i (canonical_slots nodes i)).statement.equation ≡ reflexive_equation nodes i)
reflexive_provable nodes list i h = (
  record {
    canonical = record { left = refl; right = refl };
    over = record { left = h; right = h; pairs = identity-partial (canonical_slots nodes i) };
    step = (refl, refl);
  },
  refl,
)

-- the entries of a proved list are over the graph
module _ (nodes : List DTerm) (list : List Proven) (proved : IsProved nodes list) where
  pub entry-over : (p : ℕ) → p < length list → IsOver nodes (statement_at list p).equation
  entry-over p h =
      let n : length (entries_of list) ≡ length list = length-entries list in
      subst (IsOver nodes) (equation_at-entries list p) (proved.proved.over p (omega arith))

  -- each entry can be turned round
  pub turned_provable : (p : ℕ) → p < length list → IsProvable nodes list (turned_entry list p) × ((turned_entry list p).statement.equation ≡ turned_equation nodes (statement_at list p).equation)
  turned_provable p h =
      let s : Statement = statement_at list p in
      let e : Equation = s.equation in
      let over : IsOver nodes e = entry-over p h in
      let c : IsCanonical nodes s = proved.canonical p h in
      let right : turned s.right_slots e.pairs ≡ turned (canonical_slots nodes e.right) e.pairs = ap (λ Q. turned Q e.pairs) c.right in
      let back : e.pairs ≡ turned (canonical_slots nodes e.left) (turned s.right_slots e.pairs) =
      sym (ap (turned (canonical_slots nodes e.left)) right ∙ turned-turned (canonical_slots nodes e.left) (canonical_slots nodes e.right) e.pairs over.pairs) in
      let whole : e ≡ turned_equation nodes (turned_entry list p).statement.equation = λ i. record { left = e.left; right = e.right; pairs = back i } in (
        record {
          canonical = record { left = c.right; right = c.left };
          over = record {
            left = over.right;
            right = over.left;
            pairs = subst (IsPartialInjection (canonical_slots nodes e.right) (canonical_slots nodes e.left)) (sym right) (turned-partial (canonical_slots nodes e.left) (canonical_slots nodes e.right) e.pairs over.pairs);
          };
          step = (h, equation_at-entries list p ∙ whole);
        },
        λ i. record { left = e.right; right = e.left; pairs = right i },
      )

  -- entries meet where their classes do
  pub entries_meet : (p q : ℕ) → p < length list → q < length list → (statement_at list p).equation.right ≡ (statement_at list q).equation.left → Meets (statement_at list p) (statement_at list q)
  entries_meet p q h k e = record { class = e; slots = (proved.canonical p h).right ∙ (ap (canonical_slots nodes) e ∙ sym (proved.canonical q k).left) }

  -- entries that meet can be put together
  pub composite_provable : (p q : ℕ) → p < length list → q < length list → (statement_at list p).equation.right ≡ (statement_at list q).equation.left → IsProvable nodes list (composite_entry list p q)
  composite_provable p q h k m =
      let e : Equation = (statement_at list p).equation in
      let f : Equation = (statement_at list q).equation in
      let over : IsOver nodes e = entry-over p h in
      let next : IsOver nodes f = entry-over q k in
      let first : IsPartialInjection (canonical_slots nodes e.left) (canonical_slots nodes f.left) e.pairs = subst (λ c. IsPartialInjection (canonical_slots nodes e.left) (canonical_slots nodes c) e.pairs) m over.pairs in
      let step : IsTransitive (composite_entry list p q).statement.equation e f = record { left = refl; middle = m; right = refl; joins = composite-can_join e.pairs f.pairs } in
      record {
        canonical = record { left = (proved.canonical p h).left; right = (proved.canonical q k).right };
        over = record { left = over.left; right = next.right; pairs = composite-partial (canonical_slots nodes e.left) (canonical_slots nodes f.left) (canonical_slots nodes f.right) e.pairs f.pairs first next.pairs };
        step = (
          h,
          k,
          subst (λ x. IsTransitive (composite_entry list p q).statement.equation x (equation_at (entries_of list) q)) (sym (equation_at-entries list p))
              (subst (IsTransitive (composite_entry list p q).statement.equation e) (sym (equation_at-entries list q)) step),
        );
      }

  -- what is new and provable can be entered
  pub new_can_enter : (x : Proven) → IsProvable nodes list x → IsNew list x.statement → CanEnter nodes (entries_of list) (entry_of x)
  new_can_enter x can is_new =
      let n : length (entries_of list) ≡ length list = length-entries list in
      record {
        over = can.over;
        proved = subst (λ k. IsStepFor nodes (entries_of list) k x.statement.equation x.step) (sym n) can.step;
        is_new = λ p h e.
            let l : p < length list = omega arith in
            let s : Statement = statement_at list p in
            let c : IsCanonical nodes s = proved.canonical p l in
            let same : s.equation ≡ x.statement.equation = sym (equation_at-entries list p) ∙ e in
            let left : s.left_slots ≡ x.statement.left_slots = c.left ∙ (ap (λ (f : Equation). canonical_slots nodes f.left) same ∙ sym can.canonical.left) in
            let right : s.right_slots ≡ x.statement.right_slots = c.right ∙ (ap (λ (f : Equation). canonical_slots nodes f.right) same ∙ sym can.canonical.right) in
            is_new p (record { in_range = l; statement = λ i. record { left_slots = left i; right_slots = right i; equation = same i } });
      }

entries_of-append : (list : List Proven) (x : Proven) → entries_of (list ++ x ∷ []) ≡ entries_of list ++ entry_of x ∷ []
entries_of-append list x = map-append entry_of list (x ∷ [])

-- what stands in a longer list
statement_at-earlier : (list : List Proven) (x : Proven) (p : ℕ) → p < length list → statement_at (list ++ x ∷ []) p ≡ statement_at list p
statement_at-earlier [] x p h = absurd (omega arith)
statement_at-earlier (y ∷ list) x zero h = refl
statement_at-earlier (y ∷ list) x (suc p) h = statement_at-earlier list x p (omega arith)

statement_at-last : (list : List Proven) (x : Proven) → statement_at (list ++ x ∷ []) (length list) ≡ x.statement
statement_at-last [] x = refl
statement_at-last (y ∷ list) x = statement_at-last list x

longer_canonical : (nodes : List DTerm) (list : List Proven) (x : Proven) → ((p : ℕ) → p < length list → IsCanonical nodes (statement_at list p)) → IsCanonical nodes x.statement → (p : ℕ) → p < length (list ++ x ∷ []) → IsCanonical nodes (statement_at (list ++ x ∷ []) p)
longer_canonical nodes list x all c p h = elim (cases_eq p (length list)) [
  | inl e ↦ subst (λ k. IsCanonical nodes (statement_at (list ++ x ∷ []) k)) (sym e) (subst (IsCanonical nodes) (sym (statement_at-last list x)) c)
  | inr n ↦
      let m : length (list ++ x ∷ []) ≡ length list + 1 = length-append list (x ∷ []) in
      let l : p < length list = omega arith in
      subst (IsCanonical nodes) (sym (statement_at-earlier list x p l)) (all p l)
]

-- a list stays proved when what is provable is entered
pub entering_proved : (nodes : List DTerm) (old new : List Proven) (x : Proven) (p : ℕ) → IsProved nodes old → IsProvable nodes old x → Enters old new x p → IsProved nodes new
entering_proved nodes old new x p proved can enters = by enters.grows
  where
    by : Grows old new x p → IsProved nodes new
    by (inl h) = subst (IsProved nodes) (sym h.1) proved
    by (inr h) = subst (IsProved nodes) (sym h.2) (record {
      proved = subst (Proved nodes) (sym (entries_of-append old x)) (entered-proved nodes (entries_of old) (entry_of x) proved.proved (new_can_enter nodes old proved x can h.0));
      canonical = longer_canonical nodes old x proved.canonical can.canonical;
    })

-- and storage stays sound
pub entering_sound : (nodes : List DTerm) (found : List Entry) (old new : List Proven) (x : Proven) (p : ℕ) → Sound nodes found (entries_of old) → IsProved nodes old → IsProvable nodes old x → Enters old new x p → Sound nodes found (entries_of new)
entering_sound nodes found old new x p sound proved can enters = by enters.grows
  where
    by : Grows old new x p → Sound nodes found (entries_of new)
    by (inl h) = subst (λ list. Sound nodes found (entries_of list)) (sym h.1) sound
    by (inr h) = subst (λ list. Sound nodes found (entries_of list)) (sym h.2) (subst (Sound nodes found) (sym (entries_of-append old x)) (record {
      canonical = sound.canonical;
      linked = sound.linked;
      proved = entered-proved nodes (entries_of old) (entry_of x) sound.proved (new_can_enter nodes old proved x can h.0);
      exact = entered-exact nodes (entries_of old) (entry_of x) found sound.exact;
    }))

-- the statement stands at the answered number, and the earlier ones stand where they stood
pub entered_stands : (old new : List Proven) (x : Proven) (p : ℕ) → Enters old new x p → (p < length (entries_of new)) × (equation_at (entries_of new) p ≡ x.statement.equation) × ((q : ℕ) → q < length old → (q < length new) × (statement_at new q ≡ statement_at old q))
entered_stands old new x p enters = (
  let n : length (entries_of new) ≡ length new = length-entries new in omega (arith, enters.stands.in_range),
  equation_at-entries new p ∙ ap (λ (s : Statement). s.equation) enters.stands.statement,
  λ q l. by q l enters.grows,
)
  where
    by : (q : ℕ) → q < length old → Grows old new x p → (q < length new) × (statement_at new q ≡ statement_at old q)
    by q l (inl h) = let m : length new ≡ length old = ap length h.1 in (omega arith, ap (λ list. statement_at list q) h.1)
    by q l (inr h) =
        let m : length new ≡ length old + 1 = ap length h.2 ∙ length-append old (x ∷ []) in
        (omega arith, ap (λ list. statement_at list q) h.2 ∙ statement_at-earlier old x q l)

-- what stood stands still
pub still_stands : {old new : List Proven} {x : Proven} {p : ℕ} → Enters old new x p → (s : Statement) (q : ℕ) → Stands old s q → Stands new s q
still_stands {old} {new} {x} {p} enters s q there =
    let stays : (q < length new) × (statement_at new q ≡ statement_at old q) = (entered_stands old new x p enters).2 q there.in_range in
    record { in_range = stays.0; statement = stays.1 ∙ there.statement }

-- what more is asserted

more_asserted : (nodes : List DTerm) (old : List Proven) (x : Proven) → asserted nodes (entries_of (old ++ x ∷ [])) ≡ asserted nodes (entries_of old) ++ cons_option (if_explicit x.step (term_pair nodes x.statement.equation)) []
more_asserted nodes old x = ap (asserted nodes) (entries_of-append old x) ∙ entered-asserted nodes (entries_of old) (entry_of x)

by_step : (s : Step) (pair : DTerm × DTerm) (list : List (DTerm × DTerm)) → (list ++ cons_option (if_explicit s pair) [] ≡ list) ⊎ ((s ≡ explicit) × (list ++ cons_option (if_explicit s pair) [] ≡ list ++ pair ∷ []))
by_step explicit pair list = inr (refl, refl)
by_step reflexive pair list = inl (append-nil list)
by_step (symmetric q) pair list = inl (append-nil list)
by_step (transitive q r) pair list = inl (append-nil list)
by_step (congruent qs) pair list = inl (append-nil list)

pub entering_asserts : (nodes : List DTerm) (old new : List Proven) (x : Proven) (p : ℕ) → Enters old new x p → (asserted nodes (entries_of new) ≡ asserted nodes (entries_of old)) ⊎ ((x.step ≡ explicit) × IsNew old x.statement × (asserted nodes (entries_of new) ≡ asserted nodes (entries_of old) ++ term_pair nodes x.statement.equation ∷ []))
entering_asserts nodes old new x p enters = by enters.grows
  where
    by : Grows old new x p → (asserted nodes (entries_of new) ≡ asserted nodes (entries_of old)) ⊎ ((x.step ≡ explicit) × IsNew old x.statement × (asserted nodes (entries_of new) ≡ asserted nodes (entries_of old) ++ term_pair nodes x.statement.equation ∷ []))
    by (inl h) = inl (ap (λ list. asserted nodes (entries_of list)) h.1)
    by (inr h) =
        let more : asserted nodes (entries_of new) ≡ asserted nodes (entries_of old) ++ cons_option (if_explicit x.step (term_pair nodes x.statement.equation)) [] = ap (λ list. asserted nodes (entries_of list)) h.2 ∙ more_asserted nodes old x in
        elim (by_step x.step (term_pair nodes x.statement.equation) (asserted nodes (entries_of old))) [
          | inl e ↦ inl (more ∙ e)
          | inr e ↦ inr (e.0, h.0, more ∙ e.1)
        ]

pub others_assert_nothing : (nodes : List DTerm) (old new : List Proven) (x : Proven) (p : ℕ) → Enters old new x p → x.step ≢ explicit → asserted nodes (entries_of new) ≡ asserted nodes (entries_of old)
others_assert_nothing nodes old new x p enters other = elim (entering_asserts nodes old new x p enters) [
  | inl e ↦ e
  | inr e ↦ absurd (other e.0)
]

-- new classes leave a proved list as it is
pub proved_newer : (nodes newer : List DTerm) (list : List Proven) → Extends nodes newer → IsProved nodes list → IsProved newer list
proved_newer nodes newer list extends proved = record {
  proved = proved-newer nodes newer extends (entries_of list) proved.proved;
  canonical = λ p h.
      let s : Statement = statement_at list p in
      let over : IsOver nodes s.equation = entry-over nodes list proved p h in
      let c : IsCanonical nodes s = proved.canonical p h in
      record { left = c.left ∙ sym (ap names (extends.classes s.equation.left over.left).1); right = c.right ∙ sym (ap names (extends.classes s.equation.right over.right).1) };
}

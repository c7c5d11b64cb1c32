-- A new entry of the proof list leaves the earlier ones as they are.
use Rattle.std.proofs.Common.{◌≡◌, ℕ, suc, ◌+◌, ◌<◌, List, [], ◌∷◌, ◌++◌, length, sym, ◌∙◌, ap, refl, subst, inl, inr, arith, length-append}
use Rattle.std.specs.Prelude.{Option, Some, None, ◌⊎◌}
use Rattle.std.specs.List.{cons_option}
use Rattle.std.proofs.lemmas.Bool.{cases_eq}
use Rattle.std.proofs.lemmas.List.{get_or_append_left}
use Rattle.std.proofs.Math.Seq.{get_or-append_seam}
use Rattle.slotted_lists.proofs.Contained.{map-agree}
use Rattle.slotted_theory.specs.Nameless.{DTerm}
use Rattle.slotted_model.specs.Find.{Entry, entry_at}
use Rattle.slotted_model.specs.ProofList.{Equation, Step, ProofEntry, explicit, reflexive, symmetric, transitive, congruent, IsOver, IsTransitive, IsSymmetric, IsCongruent, equation_at, step_at, IsStepFor, Proved, term_pair, if_explicit, asserted, Exact}
use Rattle.slotted_model.specs.Link.{CanEnter}

abbrev pub no_proof : ProofEntry
no_proof = record { equation = record { left = 0; right = 0; pairs = [] }; step = explicit }

-- a step stays what it was where its parts do
pub IsStepFor-agree : (nodes : List DTerm) (older newer : List ProofEntry) (p : ℕ) (e : Equation) (s : Step) → ((q : ℕ) → q < p → equation_at newer q ≡ equation_at older q) → IsStepFor nodes older p e s → IsStepFor nodes newer p e s
IsStepFor-agree nodes older newer p e explicit same c = c
IsStepFor-agree nodes older newer p e reflexive same c = c
IsStepFor-agree nodes older newer p e (symmetric q) same c = (c.0, subst (IsSymmetric nodes e) (sym (same q c.0)) c.1)
IsStepFor-agree nodes older newer p e (transitive q r) same c = (
  c.0,
  c.1,
  subst (λ x. IsTransitive e x (equation_at newer r)) (sym (same q c.0)) (subst (IsTransitive e (equation_at older q)) (sym (same r c.1)) c.2),
)
IsStepFor-agree nodes older newer p e (congruent qs) same c =
    (c.0, subst (IsCongruent nodes e) (sym (map-agree (equation_at newer) (equation_at older) qs (λ q k. same q (c.0 q k)))) c.1)

module _ (proofs : List ProofEntry) (entry : ProofEntry) where
  abbrev with_entry : List ProofEntry
  with_entry = proofs ++ entry ∷ []

  pub equation-earlier : (q : ℕ) → q < length proofs → equation_at with_entry q ≡ equation_at proofs q
  equation-earlier q h = ap (λ (x : ProofEntry). x.equation) (get_or_append_left proofs (entry ∷ []) no_proof q h)

  pub step-earlier : (q : ℕ) → q < length proofs → step_at with_entry q ≡ step_at proofs q
  step-earlier q h = ap (λ (x : ProofEntry). x.step) (get_or_append_left proofs (entry ∷ []) no_proof q h)

  pub equation-last : equation_at with_entry (length proofs) ≡ entry.equation
  equation-last = ap (λ (x : ProofEntry). x.equation) (get_or-append_seam proofs entry [] no_proof)

  pub step-last : step_at with_entry (length proofs) ≡ entry.step
  step-last = ap (λ (x : ProofEntry). x.step) (get_or-append_seam proofs entry [] no_proof)

  pub longer-length : length with_entry ≡ suc (length proofs)
  longer-length = let e : length with_entry ≡ length proofs + length (entry ∷ []) = length-append proofs (entry ∷ []) in omega arith

  -- a number of the longer list is that of an earlier entry, or of the new one
  pub earlier_or_last : (p : ℕ) → p < length with_entry → (p < length proofs) ⊎ (p ≡ length proofs)
  earlier_or_last p h = let e : length with_entry ≡ suc (length proofs) = longer-length in elim (cases_eq p (length proofs)) [
    | inl q ↦ inr q
    | inr n ↦ inl (omega arith)
  ]

-- the longer list is proved
module _ (nodes : List DTerm) (proofs : List ProofEntry) (entry : ProofEntry) where
  abbrev longer : List ProofEntry
  longer = proofs ++ entry ∷ []

  pub entered-proved : Proved nodes proofs → CanEnter nodes proofs entry → Proved nodes longer
  entered-proved proved can = record {
    over = λ p h. elim ((earlier_or_last proofs entry) p h) [
      | inl l ↦ subst (IsOver nodes) (sym ((equation-earlier proofs entry) p l)) (proved.over p l)
      | inr e ↦ subst (λ q. IsOver nodes (equation_at longer q)) (sym e) (subst (IsOver nodes) (sym (equation-last proofs entry)) can.over)
    ];
    steps = λ p h. elim ((earlier_or_last proofs entry) p h) [
      | inl l ↦ IsStepFor-agree nodes proofs longer p (equation_at longer p) (step_at longer p) (λ q k. (equation-earlier proofs entry) q (omega arith))
          (subst (λ x. IsStepFor nodes proofs p x (step_at longer p)) (sym ((equation-earlier proofs entry) p l)) (subst (IsStepFor nodes proofs p (equation_at proofs p)) (sym ((step-earlier proofs entry) p l)) (proved.steps p l)))
      | inr e ↦ subst (λ q. IsStepFor nodes longer q (equation_at longer q) (step_at longer q)) (sym e)
          (IsStepFor-agree nodes proofs longer (length proofs) (equation_at longer (length proofs)) (step_at longer (length proofs)) (λ q k. (equation-earlier proofs entry) q k)
          (subst (λ x. IsStepFor nodes proofs (length proofs) x (step_at longer (length proofs))) (sym (equation-last proofs entry)) (subst (IsStepFor nodes proofs (length proofs) entry.equation) (sym (step-last proofs entry)) can.proved)))
    ];
    once = λ p q h k e. elim ((earlier_or_last proofs entry) p h) [
      | inl l ↦ elim ((earlier_or_last proofs entry) q k) [
        | inl m ↦ proved.once p q l m (sym ((equation-earlier proofs entry) p l) ∙ (e ∙ (equation-earlier proofs entry) q m))
        | inr m ↦ absurd (can.is_new p l (sym ((equation-earlier proofs entry) p l) ∙ (e ∙ (ap (equation_at longer) m ∙ (equation-last proofs entry)))))
      ]
      | inr l ↦ elim ((earlier_or_last proofs entry) q k) [
        | inl m ↦ absurd (can.is_new q m (sym ((equation-earlier proofs entry) q m) ∙ (sym e ∙ (ap (equation_at longer) l ∙ (equation-last proofs entry)))))
        | inr m ↦ l ∙ sym m
      ]
    ];
  }

  pub entered-exact : (found : List Entry) → Exact nodes found proofs → Exact nodes found longer
  entered-exact found exact = record {
    in_range = λ i h. let e : length longer ≡ suc (length proofs) = (longer-length proofs entry) in let l : (entry_at found i).proof < length proofs = exact.in_range i h in omega arith;
    equations = λ i h. (equation-earlier proofs entry) (entry_at found i).proof (exact.in_range i h) ∙ exact.equations i h;
  }

cons_option-append : {Y : Type 0} (o : Option Y) (xs ys : List Y) → cons_option o xs ++ ys ≡ cons_option o (xs ++ ys)
cons_option-append None xs ys = refl
cons_option-append (Some x) xs ys = refl

-- the asserted list grows by the terms of an explicit entry, and of no other
pub entered-asserted : (nodes : List DTerm) (proofs : List ProofEntry) (entry : ProofEntry) → asserted nodes (proofs ++ entry ∷ []) ≡ asserted nodes proofs ++ cons_option (if_explicit entry.step (term_pair nodes entry.equation)) []
entered-asserted nodes [] entry = refl
entered-asserted nodes (x ∷ proofs) entry =
    ap (cons_option (if_explicit x.step (term_pair nodes x.equation))) (entered-asserted nodes proofs entry)
    ∙ sym (cons_option-append (if_explicit x.step (term_pair nodes x.equation)) (asserted nodes proofs) (cons_option (if_explicit entry.step (term_pair nodes entry.equation)) []))

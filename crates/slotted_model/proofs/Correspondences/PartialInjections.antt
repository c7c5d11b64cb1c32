-- Partial injections: what they contain determines them, and their inverse, composite and identity.
use Rattle.std.proofs.Common.{◌≡◌, ℕ, List, [], ◌∷◌, Option, Some, None, sym, ◌∙◌, ap, refl, subst}
use Rattle.std.specs.Prelude.{Contains, option_map, option_and_then}
use Rattle.std.specs.List.{cons_option}
use Rattle.std.proofs.lemmas.Option.{same_Some}
use Rattle.slotted_lists.proofs.Options.{same_options}
use Rattle.slotted_theory.specs.FiniteMaps.{value_of}
use Rattle.slotted_model.specs.Correspondence.{pairs_on, flipped, composite, turned, identity, IsPartialInjection}
use Rattle.slotted_model.proofs.Correspondences.Pairs.{Contains-pairs_on, Contains-of_pairs_on, Contains-composite, Contains-of_composite, Contains-flipped, Contains-of_flipped, Contains-value_of, value_of-only, pairs_on-agree}

-- what stands in a list in the order of P is found there
pub value_of-in_order : (P : List ℕ) (A : List (ℕ × ℕ)) → pairs_on P (value_of A) ≡ A → (s t : ℕ) → Contains A (s, t) → value_of A s ≡ Some t
value_of-in_order P A o s t c = (Contains-of_pairs_on P (value_of A) s t (subst (λ L. Contains L (s, t)) (sym o) c)).1

pub key_in_order : (P : List ℕ) (A : List (ℕ × ℕ)) → pairs_on P (value_of A) ≡ A → (s t : ℕ) → Contains A (s, t) → Contains P s
key_in_order P A o s t c = (Contains-of_pairs_on P (value_of A) s t (subst (λ L. Contains L (s, t)) (sym o) c)).0

-- a slot has one partner
pub one_partner : (P : List ℕ) (A : List (ℕ × ℕ)) → pairs_on P (value_of A) ≡ A → (s t t' : ℕ) → Contains A (s, t) → Contains A (s, t') → t ≡ t'
one_partner P A o s t t' c d = same_Some t t' (sym (value_of-in_order P A o s t c) ∙ value_of-in_order P A o s t' d)

-- lists in the order of P with the same pairs are the same
pub in_order-ext : (P : List ℕ) (A B : List (ℕ × ℕ)) → pairs_on P (value_of A) ≡ A → pairs_on P (value_of B) ≡ B → ((s t : ℕ) → Contains A (s, t) → Contains B (s, t)) → ((s t : ℕ) → Contains B (s, t) → Contains A (s, t)) → A ≡ B
in_order-ext P A B a b f g =
    sym a
    ∙ (pairs_on-agree P (value_of A) (value_of B) (λ s c. same_options (value_of A s) (value_of B s)
    (λ t e. value_of-in_order P B b s t (f s t (Contains-value_of A s t e)))
    (λ t e. value_of-in_order P A a s t (g s t (Contains-value_of B s t e))))
    ∙ b)

-- the pairs (s, f s) are in the order of P
value_of-pairs_on : (P : List ℕ) (f : ℕ → Option ℕ) (s : ℕ) → Contains P s → value_of (pairs_on P f) s ≡ f s
value_of-pairs_on P f s c = same_options (value_of (pairs_on P f) s) (f s)
    (λ t e. (Contains-of_pairs_on P f s t (Contains-value_of (pairs_on P f) s t e)).1)
    (λ t e. value_of-only (pairs_on P f) s t (Contains-pairs_on P f s t c e) (λ v d. same_Some v t (sym (Contains-of_pairs_on P f s v d).1 ∙ e)))

pub pairs_on-in_order : (P : List ℕ) (f : ℕ → Option ℕ) → pairs_on P (value_of (pairs_on P f)) ≡ pairs_on P f
pairs_on-in_order P f = pairs_on-agree P (value_of (pairs_on P f)) f (value_of-pairs_on P f)

-- a composite keeps the order of its first part
composite-cons_option : (s : ℕ) (o : Option ℕ) (A B : List (ℕ × ℕ)) → composite (cons_option (option_map (λ t. (s, t)) o) A) B ≡ cons_option (option_map (λ u. (s, u)) (option_and_then (value_of B) o)) (composite A B)
composite-cons_option s None A B = refl
composite-cons_option s (Some t) A B = refl

composite-pairs_on : (P : List ℕ) (f : ℕ → Option ℕ) (B : List (ℕ × ℕ)) → composite (pairs_on P f) B ≡ pairs_on P (λ s. option_and_then (value_of B) (f s))
composite-pairs_on [] f B = refl
composite-pairs_on (s ∷ P) f B =
    composite-cons_option s (f s) (pairs_on P f) B
    ∙ ap (cons_option (option_map (λ u. (s, u)) (option_and_then (value_of B) (f s)))) (composite-pairs_on P f B)

pub composite-in_order : (P : List ℕ) (A B : List (ℕ × ℕ)) → pairs_on P (value_of A) ≡ A → pairs_on P (value_of (composite A B)) ≡ composite A B
composite-in_order P A B o =
    let e : composite A B ≡ pairs_on P (λ s. option_and_then (value_of B) (value_of A s)) = ap (λ L. composite L B) (sym o) ∙ composite-pairs_on P (value_of A) B in
    subst (λ L. pairs_on P (value_of L) ≡ L) (sym e) (pairs_on-in_order P (λ s. option_and_then (value_of B) (value_of A s)))

-- a pair of a composite goes over the middle
pub composite-over : (A B : List (ℕ × ℕ)) (s u : ℕ) → Contains (composite A B) (s, u) → (t : ℕ) × Contains A (s, t) × Contains B (t, u)
composite-over A B s u c =
    let r : (t : ℕ) × Contains A (s, t) × (value_of B t ≡ Some u) = Contains-of_composite A B s u c in
    (r.0, r.1, Contains-value_of B r.0 u r.2)

pub composite-by : (Q : List ℕ) (A B : List (ℕ × ℕ)) → pairs_on Q (value_of B) ≡ B → (s t u : ℕ) → Contains A (s, t) → Contains B (t, u) → Contains (composite A B) (s, u)
composite-by Q A B o s t u c d = Contains-composite A B s t u c (value_of-in_order Q B o t u d)

pub composite-partial : (P Q R : List ℕ) (A B : List (ℕ × ℕ)) → IsPartialInjection P Q A → IsPartialInjection Q R B → IsPartialInjection P R (composite A B)
composite-partial P Q R A B a b = record {
  in_order = composite-in_order P A B a.in_order;
  within = λ s u c. let r = composite-over A B s u c in b.within r.0 u r.2;
  injective = λ s s' u c d.
      let r = composite-over A B s u c in
      let q = composite-over A B s' u d in
      a.injective s s' q.0 (subst (λ t. Contains A (s, t)) (b.injective r.0 q.0 u r.2 q.2) r.1) q.1;
}

-- a pair of the inverse is a pair turned round
pub turned-pair : (Q : List ℕ) (A : List (ℕ × ℕ)) (s t : ℕ) → Contains (turned Q A) (t, s) → Contains A (s, t)
turned-pair Q A s t c = Contains-of_flipped A s t (Contains-value_of (flipped A) t s (Contains-of_pairs_on Q (value_of (flipped A)) t s c).1)

pub turned-by : (P Q : List ℕ) (A : List (ℕ × ℕ)) → IsPartialInjection P Q A → (s t : ℕ) → Contains A (s, t) → Contains (turned Q A) (t, s)
turned-by P Q A a s t c = Contains-pairs_on Q (value_of (flipped A)) t s (a.within s t c)
    (value_of-only (flipped A) t s (Contains-flipped A s t c) (λ v d. a.injective v s t (Contains-of_flipped A v t d) c))

pub turned-partial : (P Q : List ℕ) (A : List (ℕ × ℕ)) → IsPartialInjection P Q A → IsPartialInjection Q P (turned Q A)
turned-partial P Q A a = record {
  in_order = pairs_on-in_order Q (value_of (flipped A));
  within = λ t s c. key_in_order P A a.in_order s t (turned-pair Q A s t c);
  injective = λ t t' s c d. one_partner P A a.in_order s t t' (turned-pair Q A s t c) (turned-pair Q A s t' d);
}

pub turned-turned : (P Q : List ℕ) (A : List (ℕ × ℕ)) → IsPartialInjection P Q A → turned P (turned Q A) ≡ A
turned-turned P Q A a =
    let b : IsPartialInjection Q P (turned Q A) = turned-partial P Q A a in
    in_order-ext P (turned P (turned Q A)) A (pairs_on-in_order P (value_of (flipped (turned Q A)))) a.in_order
    (λ s t c. turned-pair Q A s t (turned-pair P (turned Q A) t s c))
    (λ s t c. turned-by Q P (turned Q A) b t s (turned-by P Q A a s t c))

-- a composite is turned part by part
pub turned-composite : (P Q R : List ℕ) (A B : List (ℕ × ℕ)) → IsPartialInjection P Q A → IsPartialInjection Q R B → turned R (composite A B) ≡ composite (turned R B) (turned Q A)
turned-composite P Q R A B a b =
    in_order-ext R (turned R (composite A B)) (composite (turned R B) (turned Q A))
    (pairs_on-in_order R (value_of (flipped (composite A B))))
    (composite-in_order R (turned R B) (turned Q A) (pairs_on-in_order R (value_of (flipped B))))
    (λ u s c.
    let r = composite-over A B s u (turned-pair R (composite A B) s u c) in
    composite-by Q (turned R B) (turned Q A) (pairs_on-in_order Q (value_of (flipped A))) u r.0 s (turned-by Q R B b r.0 u r.2) (turned-by P Q A a s r.0 r.1))
    (λ u s c.
    let r = composite-over (turned R B) (turned Q A) u s c in
    turned-by P R (composite A B) (composite-partial P Q R A B a b) s u
    (composite-by Q A B b.in_order s r.0 u (turned-pair Q A s r.0 r.2) (turned-pair R B r.0 u r.1)))

pub composite-composite : (P Q R S : List ℕ) (A B C : List (ℕ × ℕ)) → IsPartialInjection P Q A → IsPartialInjection Q R B → IsPartialInjection R S C → composite (composite A B) C ≡ composite A (composite B C)
composite-composite P Q R S A B C a b c =
    in_order-ext P (composite (composite A B) C) (composite A (composite B C))
    (composite-in_order P (composite A B) C (composite-in_order P A B a.in_order))
    (composite-in_order P A (composite B C) a.in_order)
    (λ s v d.
    let r = composite-over (composite A B) C s v d in
    let q = composite-over A B s r.0 r.1 in
    composite-by Q A (composite B C) (composite-in_order Q B C b.in_order) s q.0 v q.1 (composite-by R B C c.in_order q.0 r.0 v q.2 r.2))
    (λ s v d.
    let r = composite-over A (composite B C) s v d in
    let q = composite-over B C r.0 v r.2 in
    composite-by R (composite A B) C c.in_order s q.0 v (composite-by Q A B b.in_order s r.0 q.0 r.1 q.1) q.2)

-- the identity joins each slot to itself
identity-pairs_on : (P : List ℕ) → identity P ≡ pairs_on P Some
identity-pairs_on [] = refl
identity-pairs_on (s ∷ P) = ap (λ L. (s, s) ∷ L) (identity-pairs_on P)

pub identity-in_order : (P : List ℕ) → pairs_on P (value_of (identity P)) ≡ identity P
identity-in_order P = subst (λ L. pairs_on P (value_of L) ≡ L) (sym (identity-pairs_on P)) (pairs_on-in_order P Some)

pub identity-pair : (P : List ℕ) (s t : ℕ) → Contains (identity P) (s, t) → Contains P s × (s ≡ t)
identity-pair P s t c =
    let r = Contains-of_pairs_on P Some s t (subst (λ L. Contains L (s, t)) (identity-pairs_on P) c) in
    (r.0, same_Some s t r.1)

pub identity-by : (P : List ℕ) (s : ℕ) → Contains P s → Contains (identity P) (s, s)
identity-by P s c = subst (λ L. Contains L (s, s)) (sym (identity-pairs_on P)) (Contains-pairs_on P Some s s c refl)

pub identity-both : (P : List ℕ) (s t : ℕ) → Contains P s × (s ≡ t) → Contains (identity P) (s, t)
identity-both P s t h = subst (λ x. Contains (identity P) (s, x)) h.1 (identity-by P s h.0)

pub identity-partial : (P : List ℕ) → IsPartialInjection P P (identity P)
identity-partial P = record {
  in_order = identity-in_order P;
  within = λ s t c. let r = identity-pair P s t c in subst (λ x. Contains P x) r.1 r.0;
  injective = λ s s' t c d. (identity-pair P s t c).1 ∙ sym (identity-pair P s' t d).1;
}

pub identity-composite : (P Q : List ℕ) (A : List (ℕ × ℕ)) → IsPartialInjection P Q A → composite (identity P) A ≡ A
identity-composite P Q A a =
    in_order-ext P (composite (identity P) A) A (composite-in_order P (identity P) A (identity-in_order P)) a.in_order
    (λ s t c. let r = composite-over (identity P) A s t c in subst (λ x. Contains A (x, t)) (sym (identity-pair P s r.0 r.1).1) r.2)
    (λ s t c. composite-by P (identity P) A a.in_order s s t (identity-by P s (key_in_order P A a.in_order s t c)) c)

pub composite-identity : (P Q : List ℕ) (A : List (ℕ × ℕ)) → IsPartialInjection P Q A → composite A (identity Q) ≡ A
composite-identity P Q A a =
    in_order-ext P (composite A (identity Q)) A (composite-in_order P A (identity Q) a.in_order) a.in_order
    (λ s t c. let r = composite-over A (identity Q) s t c in subst (λ x. Contains A (s, x)) (identity-pair Q r.0 t r.2).1 r.1)
    (λ s t c. composite-by Q A (identity Q) (identity-in_order Q) s t t c (identity-by Q t (a.within s t c)))

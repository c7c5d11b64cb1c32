-- Numbering the names of the two sides of an equation.
use Rattle.std.proofs.Common.{◌≡◌, ℕ, zero, suc, ◌+◌, ◌<◌, ◌≤◌, List, [], ◌∷◌, ◌++◌, length, take, drop, Option, Some, None, append_assoc, add-one, refl, sym, ap, ◌∙◌, subst, arith}
use Rattle.std.specs.Prelude.{Contains, option_map, unwrap_or, is_some, cond}
use Rattle.std.specs.Map.{values_of}
use Rattle.slotted_lists.proofs.Maps.{value_of-with_values}
use Rattle.slotted_lists.proofs.Options.{same_options}
use Rattle.slotted_theory.specs.FiniteMaps.{value_of, with_values}
use Rattle.slotted_slots.specs.Ascending.{AllAbove, IsAscending}
use Rattle.slotted_slots.specs.Maps.{with_value_at, with_pair, composed}
use Rattle.slotted_slots.specs.Maps as code
use Rattle.slotted_slots.specs.Table.{numeric_slot}
use Rattle.slotted_slots.proofs.MapLemmas.{with_pair-after}
use Rattle.slotted_model.specs.Applied.{keys}
use Rattle.slotted_model.specs.Correspondence.{AllDifferent, IsFullMap, IsInjectiveOn, numbered_from, numbered_after, numbered, composite, turned, flipped, same_names, IsPartialInjection, IsNumberedForm}
use Rattle.slotted_model.proofs.Correspondences.Pairs.{Contains-flipped, Contains-of_flipped, Contains-value_of, value_of-only, Contains-composite, Contains-of_composite}
use Rattle.slotted_model.proofs.Correspondences.PartialInjections.{one_partner, turned-pair, turned-by, turned-partial, composite-partial, turned-composite}
use Rattle.slotted_model.proofs.Correspondences.FullMaps.{with_values-full, same_names-with_values, same_names-partial, same_names-turned}
use Rattle.slotted_model.proofs.Correspondences.Numbers.{numbered-form}
use Rattle.slotted_model.proofs.Finds.NormalIds.{composite-with_values}
use Rattle.slotted_proofs.specs.Equations.{Statement, AreSides, named_after, numbered_left, numbered_right}
use Rattle.slotted_proofs.proofs.Bridges.{value_of-model, composed-model}

-- the map whose first i slots have the numbers from k on
abbrev pub named_so_far : ℕ → ℕ → List (ℕ × ℕ) → List (ℕ × ℕ)
named_so_far k i m = with_values numeric_slot (numbered_from k (take i (keys m))) ++ drop i m

-- one more slot has its number
pub named_so_far-step : (k i v : ℕ) (m : List (ℕ × ℕ)) → i < length m → v ≡ numeric_slot (k + i) → with_value_at (named_so_far k i m) i v ≡ named_so_far k (suc i) m
named_so_far-step k i v [] l e = absurd (omega arith)
named_so_far-step k zero v (p ∷ m) l e = let n : v ≡ numeric_slot k = omega arith in ap (λ x. (p.0, x) ∷ m) n
named_so_far-step k (suc i) v (p ∷ m) l e = ap (λ r. (p.0, numeric_slot k) ∷ r) (named_so_far-step (suc k) i v m (omega arith) (omega arith))

pub length-named_so_far : (k i : ℕ) (m : List (ℕ × ℕ)) → length (named_so_far k i m) ≡ length m
length-named_so_far k zero m = refl
length-named_so_far k (suc i) [] = refl
length-named_so_far k (suc i) (p ∷ m) = ap suc (length-named_so_far (suc k) i m)

-- all slots have their numbers
pub named_so_far-all : (k i : ℕ) (m : List (ℕ × ℕ)) → length m ≤ i → named_so_far k i m ≡ with_values numeric_slot (numbered_from k (keys m))
named_so_far-all k zero [] l = refl
named_so_far-all k zero (p ∷ m) l = absurd (omega arith)
named_so_far-all k (suc i) [] l = refl
named_so_far-all k (suc i) (p ∷ m) l = ap (λ r. (p.0, numeric_slot k) ∷ r) (named_so_far-all (suc k) i m (omega arith))

-- keys of numbered maps

pub keys-numbered_from : (k : ℕ) (P : List ℕ) → keys (with_values numeric_slot (numbered_from k P)) ≡ P
keys-numbered_from k [] = refl
keys-numbered_from k (s ∷ P) = ap (λ L. s ∷ L) (keys-numbered_from (suc k) P)

pub keys-numbered_after : (f : ℕ → Option ℕ) (k : ℕ) (Q : List ℕ) → keys (with_values numeric_slot (numbered_after f k Q)) ≡ Q
keys-numbered_after f k [] = refl
keys-numbered_after f k (t ∷ Q) = ap (λ L. t ∷ L) (keys-numbered_after f (cond (is_some (f t)) k (suc k)) Q)

pub length-numbered_from : (k : ℕ) (P : List ℕ) → length (with_values numeric_slot (numbered_from k P)) ≡ length P
length-numbered_from k [] = refl
length-numbered_from k (s ∷ P) = ap suc (length-numbered_from (suc k) P)

-- the name that is found is that of the number that is found

pub known-name : (partners left F : List (ℕ × ℕ)) → left ≡ with_values numeric_slot F → (t : ℕ) → code.value_of (composed partners left) t ≡ option_map numeric_slot (value_of (composite partners F) t)
known-name partners left F e t =
    value_of-model (composed partners left) t
    ∙ (ap (λ m. value_of m t) (composed-model partners left ∙ (ap (composite partners) e ∙ composite-with_values numeric_slot partners F))
    ∙ value_of-with_values numeric_slot (composite partners F) t)

-- the name that a slot takes, and the next number after it
pub takes_name : (o : Option ℕ) (w : Option ℕ) (n x m : ℕ) → w ≡ option_map numeric_slot o → x ≡ unwrap_or w (numeric_slot n) → m ≡ cond (is_some w) n (n + 1) → (x ≡ numeric_slot (unwrap_or o n)) × (m ≡ cond (is_some o) n (suc n))
takes_name None w n x m e f g = (f ∙ ap (λ z. unwrap_or z (numeric_slot n)) e, g ∙ (ap (λ z. cond (is_some z) n (n + 1)) e ∙ add-one n))
takes_name (Some y) w n x m e f g = (f ∙ ap (λ z. unwrap_or z (numeric_slot n)) e, g ∙ ap (λ z. cond (is_some z) n (n + 1)) e)

-- a pair whose key is above all others goes last
above_last : (k : ℕ) (m rest : List (ℕ × ℕ)) (t v : ℕ) → AllAbove k (keys (m ++ (t, v) ∷ rest)) → k < t
above_last k [] rest t v h = h.0
above_last k (p ∷ m) rest t v h = above_last k m rest t v h.1

pub with_pair-last : (m rest : List (ℕ × ℕ)) (t v w : ℕ) → IsAscending (keys (m ++ (t, w) ∷ rest)) → with_pair m t v ≡ m ++ (t, v) ∷ []
with_pair-last [] rest t v w a = refl
with_pair-last (p ∷ m) rest t v w a =
    with_pair-after p m t v (above_last p.0 m rest t w a.0)
    ∙ ap (λ r. p ∷ r) (with_pair-last m rest t v w a.1)

-- slots that are named after those of a map, as they are numbered where their partners are known
pub keys-named_after : (known : List (ℕ × ℕ)) (n : ℕ) (Q : List ℕ) → keys (named_after known n Q) ≡ Q
keys-named_after known n [] = refl
keys-named_after known n (t ∷ Q) = ap (λ L. t ∷ L) (keys-named_after known (cond (is_some (code.value_of known t)) n (n + 1)) Q)

pub named-numbered : (f : ℕ → Option ℕ) (known : List (ℕ × ℕ)) → ((t : ℕ) → code.value_of known t ≡ option_map numeric_slot (f t)) → (n : ℕ) (Q : List ℕ) → named_after known n Q ≡ with_values numeric_slot (numbered_after f n Q)
named-numbered f known e n [] = refl
named-numbered f known e n (t ∷ Q) =
    let w : Option ℕ = code.value_of known t in
    let takes = takes_name (f t) w n (unwrap_or w (numeric_slot n)) (cond (is_some w) n (n + 1)) (e t) refl refl in
    (λ i. (t, takes.0 i) ∷ named_after known (takes.1 i) Q)
    ∙ ap (λ r. (t, numeric_slot (unwrap_or (f t) n)) ∷ r) (named-numbered f known e (cond (is_some (f t)) n (suc n)) Q)

-- one more slot of the right side has its name
pub side-step : (known : List (ℕ × ℕ)) (k : ℕ) (P : List ℕ) (side : List (ℕ × ℕ)) (n t v next : ℕ) (Q : List ℕ) → IsAscending P →
    v ≡ unwrap_or (code.value_of known t) (numeric_slot n) → next ≡ cond (is_some (code.value_of known t)) n (n + 1) →
    side ++ named_after known n (t ∷ Q) ≡ named_after known k P → with_pair side t v ++ named_after known next Q ≡ named_after known k P
side-step known k P side n t v next Q a ev en whole =
    let w : ℕ = unwrap_or (code.value_of known t) (numeric_slot n) in
    let rest : List (ℕ × ℕ) = named_after known (cond (is_some (code.value_of known t)) n (n + 1)) Q in
    let up : IsAscending (keys (side ++ (t, w) ∷ rest)) = subst IsAscending (sym (ap keys whole ∙ keys-named_after known k P)) a in
    (λ i. with_pair side t (ev i) ++ named_after known (en i) Q)
    ∙ (ap (λ l. l ++ rest) (with_pair-last side rest t w w up)
    ∙ (append_assoc side ((t, w) ∷ []) rest ∙ whole))

-- the two sides by the partners of the right slots

-- where only one thing can be found at each key, lists with the same pairs find the same
value_of-same_pairs : (A B : List (ℕ × ℕ)) → ((s t : ℕ) → Contains A (s, t) → Contains B (s, t)) → ((s t : ℕ) → Contains B (s, t) → Contains A (s, t)) → ((s t t' : ℕ) → Contains A (s, t) → Contains A (s, t') → t ≡ t') → (s : ℕ) → value_of A s ≡ value_of B s
value_of-same_pairs A B to from one s = same_options (value_of A s) (value_of B s)
    (λ t e. value_of-only B s t (to s t (Contains-value_of A s t e)) (λ v c. one s v t (from s v c) (Contains-value_of A s t e)))
    (λ t e. value_of-only A s t (from s t (Contains-value_of B s t e)) (λ v c. one s v t c (from s t (Contains-value_of B s t e))))

slots_apart : (xs : List ℕ) → IsInjectiveOn numeric_slot xs
slots_apart xs x y c d e = omega (arith, e)

module _ (P Q : List ℕ) (X : List (ℕ × ℕ)) (p : AllDifferent P) (q : AllDifferent Q) (x : IsPartialInjection Q P X) where
  abbrev pairs : List (ℕ × ℕ)
  pairs = turned P X

  abbrev numbers : List (ℕ × ℕ)
  numbers = numbered_from 0 P

  form : IsNumberedForm P Q pairs (numbered P Q pairs).0 (numbered P Q pairs).1
  form = numbered-form P Q pairs p q (turned-partial Q P X x)

  to_flipped : (t s : ℕ) → Contains X (t, s) → Contains (flipped pairs) (t, s)
  to_flipped t s c = Contains-flipped pairs s t (turned-by Q P X x t s c)

  from_flipped : (t s : ℕ) → Contains (flipped pairs) (t, s) → Contains X (t, s)
  from_flipped t s c = turned-pair P X t s (Contains-of_flipped pairs s t c)

  same_said : (t : ℕ) → value_of (composite X numbers) t ≡ value_of (composite (flipped pairs) numbers) t
  same_said = value_of-same_pairs (composite X numbers) (composite (flipped pairs) numbers)
      (λ t y c. let r = Contains-of_composite X numbers t y c in Contains-composite (flipped pairs) numbers t r.0 y (to_flipped t r.0 r.1) r.2)
      (λ t y c. let r = Contains-of_composite (flipped pairs) numbers t y c in Contains-composite X numbers t r.0 y (from_flipped t r.0 r.1) r.2)
      (λ t y z c d.
      let r = Contains-of_composite X numbers t y c in
      let u = Contains-of_composite X numbers t z d in
      let e : r.0 ≡ u.0 = one_partner Q X x.in_order t r.0 u.0 r.1 u.1 in
      let f : Some y ≡ Some z = sym r.2 ∙ (ap (value_of numbers) e ∙ u.2) in
      (cc))

  same_right : with_values numeric_slot (numbered_after (value_of (composite X numbers)) (length P) Q) ≡ numbered_right P Q pairs
  same_right = λ i. with_values numeric_slot (numbered_after (λ t. same_said t i) (length P) Q)

  pub sides_by_partners : (i j : ℕ) → AreSides (record { left_slots = P; right_slots = Q; equation = record { left = i; right = j; pairs = pairs } }) (i, with_values numeric_slot numbers) (j, with_values numeric_slot (numbered_after (value_of (composite X numbers)) (length P) Q))
  sides_by_partners i j =
      let s : Statement = record { left_slots = P; right_slots = Q; equation = record { left = i; right = j; pairs = pairs } } in
      let l : IsFullMap P (numbered_left P Q pairs) = with_values-full numeric_slot P (numbered P Q pairs).0 form.left (slots_apart (values_of (numbered P Q pairs).0)) in
      let r : IsFullMap Q (numbered_right P Q pairs) = with_values-full numeric_slot Q (numbered P Q pairs).1 form.right (slots_apart (values_of (numbered P Q pairs).1)) in
      let c : same_names (numbered_left P Q pairs) (numbered_right P Q pairs) ≡ pairs =
      same_names-with_values numeric_slot P Q (numbered P Q pairs).0 (numbered P Q pairs).1 form.left form.right (slots_apart (values_of (numbered P Q pairs).0 ++ values_of (numbered P Q pairs).1)) ∙ form.correspondence in
      subst (λ n. AreSides s (i, with_values numeric_slot numbers) (j, n)) (sym same_right) (record {
        left = refl;
        right = refl;
        left_full = l;
        right_full = r;
        equation = λ k. record { left = i; right = j; pairs = c k };
      })

-- the partners of right slots over a middle are those of the composite

module _ (P Q R : List ℕ) (l k k' r : List (ℕ × ℕ)) (fl : IsFullMap P l) (fk : IsFullMap Q k) (fk' : IsFullMap Q k') (fr : IsFullMap R r) where
  pub middle-partial : IsPartialInjection R P (composite (same_names r k') (same_names k l))
  middle-partial = composite-partial R Q P (same_names r k') (same_names k l) (same_names-partial R Q r k' fr fk') (same_names-partial Q P k l fk fl)

  pub turned-middle : turned P (composite (same_names r k') (same_names k l)) ≡ composite (same_names l k) (same_names k' r)
  turned-middle =
      turned-composite R Q P (same_names r k') (same_names k l) (same_names-partial R Q r k' fr fk') (same_names-partial Q P k l fk fl)
      ∙ (λ i. composite (sym (same_names-turned Q P k l fk fl) i) (sym (same_names-turned R Q r k' fr fk') i))

-- What the text methods of std answer, by what stands around a word.
use Rattle.std.proofs.Common.{◌≡◌, ◌<◌, ◌≤◌, ◌+◌, ℕ, zero, suc, List, [], ◌∷◌, ◌++◌, length, take, drop, refl, ap, sym, ◌∙◌, arith, inl, inr}
use Rattle.std.specs.Prelude.{◌≢◌, Option, Some, None, option_map}
use Rattle.std.specs.Str.Pattern.{FindsText, LacksTextAt, SplitsAroundMatch}
use Rattle.std.proofs.lemmas.Bool.{cases_eq, eq-eqb, ne_eqb}
use Rattle.slotted_lists.specs.Texts.{rest_behind, in_front_or, parts_around}

pub rest_behind-append : (w rest : List ℕ) → rest_behind w (w ++ rest) ≡ Some rest
rest_behind-append [] rest = refl
rest_behind-append (x ∷ w) rest = rw (eq-eqb x x refl) (rest_behind-append w rest)

pub rest_behind-some : (w s rest : List ℕ) → rest_behind w s ≡ Some rest → s ≡ w ++ rest
rest_behind-some [] s rest e = cc
rest_behind-some (x ∷ w) [] rest e = cc
rest_behind-some (x ∷ w) (b ∷ bs) rest e = elim (cases_eq x b) [
  | inl same ↦
      let here : rest_behind w bs ≡ Some rest = rw (eq-eqb x b same) at e in
      let tail : bs ≡ w ++ rest = rest_behind-some w bs rest here in
      (λ i. (sym same i) ∷ tail i)
  | inr other ↦ let no : None ≡ Some rest = rw (ne_eqb x b other) at e in cc
]

-- a text that a word does not begin has nothing behind it
pub rest_behind-none : (w s : List ℕ) → ((rest : List ℕ) → s ≢ w ++ rest) → rest_behind w s ≡ None
rest_behind-none w s lacks = by (rest_behind w s) refl
  where
    by : (o : Option (List ℕ)) → rest_behind w s ≡ o → rest_behind w s ≡ None
    by None e = e
    by (Some rest) e = absurd (lacks rest (rest_behind-some w s rest e))

pub rest_behind-found : (w s rest : List ℕ) → s ≡ w ++ rest → rest_behind w s ≡ Some rest
rest_behind-found w s rest e = ap (rest_behind w) e ∙ rest_behind-append w rest

-- where the word stands first, the parts lie around it
pub parts_around-found : (w s : List ℕ) (i j : ℕ) → ((k : ℕ) → k < i → LacksTextAt w s k) → drop i s ≡ w ++ drop j s → j ≡ i + length w → parts_around w s ≡ Some (take i s, drop j s)
parts_around-found w [] zero j lacks here ends = ap (λ o. in_front_or o None) (rest_behind-found w [] (drop j []) here)
parts_around-found w [] (suc i) j lacks here ends = absurd (lacks 0 (omega arith) (drop j []) here)
parts_around-found w (b ∷ bs) zero j lacks here ends = ap (λ o. in_front_or o (option_map (λ p. (b ∷ p.0, p.1)) (parts_around w bs))) (rest_behind-found w (b ∷ bs) (drop j (b ∷ bs)) here)
parts_around-found w (b ∷ bs) (suc i) j lacks here ends =
    let k : ℕ = i + length w in
    let next : j ≡ suc k = omega (arith, ends) in
    let not_here : rest_behind w (b ∷ bs) ≡ None = rest_behind-none w (b ∷ bs) (lacks 0 (omega arith)) in
    let behind : drop i bs ≡ w ++ drop k bs = here ∙ ap (λ n. w ++ drop n (b ∷ bs)) next in
    let later : parts_around w bs ≡ Some (take i bs, drop k bs) = parts_around-found w bs i k (λ n h. lacks (suc n) (omega arith)) behind refl in
    (λ n. in_front_or (not_here n) (option_map (λ p. (b ∷ p.0, p.1)) (later n))) ∙ ap (λ n. Some (b ∷ take i bs, drop n (b ∷ bs))) (sym next)

-- where it stands nowhere, there are no parts
pub parts_around-none : (w s : List ℕ) → ((k : ℕ) → k ≤ length s → LacksTextAt w s k) → parts_around w s ≡ None
parts_around-none w [] lacks = ap (λ o. in_front_or o None) (rest_behind-none w [] (lacks 0 (omega arith)))
parts_around-none w (b ∷ bs) lacks =
    let not_here : rest_behind w (b ∷ bs) ≡ None = rest_behind-none w (b ∷ bs) (lacks 0 (omega arith)) in
    let later : parts_around w bs ≡ None = parts_around-none w bs (λ k h. lacks (suc k) (omega arith)) in
    (λ n. in_front_or (not_here n) (option_map (λ p. (b ∷ p.0, p.1)) (later n)))

-- what `split_once` answers is the two parts
pub split : (w s front back : List ℕ) → SplitsAroundMatch (FindsText w) s front back → parts_around w s ≡ Some (front, back)
split w s front back h =
    parts_around-found w s h.0 h.1 h.2.0 h.2.1.split h.2.1.ends ∙ (λ n. Some (sym h.3 n, sym h.4 n))

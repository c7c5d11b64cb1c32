-- What the text methods of std answer, by what stands around a word and between its places.
use Rattle.std.proofs.Common.{◌≡◌, ◌<◌, ◌≤◌, ◌+◌, ℕ, zero, suc, List, [], ◌∷◌, ◌++◌, length, take, drop, refl, ap, sym, ◌∙◌, arith}
use Rattle.std.specs.Prelude.{Some, None, Bool, true, false}
use Rattle.std.specs.Str.Pattern.{FindsText, LacksTextAt, IsSplitAtFirstMatch}
use Rattle.slotted_lists.proofs.Splitting.{rest_behind-none, rest_behind-found}
use Rattle.slotted_rule_texts.specs.Parts.{rest_behind, pieces, pieces_behind, cut_or, with_byte}

-- the pieces behind the first bytes are those of what follows these
pieces_behind-drop : (w : List ℕ) (n : ℕ) (s : List ℕ) → pieces_behind w n s ≡ pieces w (drop n s)
pieces_behind-drop w zero [] = refl
pieces_behind-drop w zero (b ∷ bs) = refl
pieces_behind-drop w (suc n) [] = refl
pieces_behind-drop w (suc n) (b ∷ bs) = pieces_behind-drop w n bs

-- where the word stands first, what stands before it is a piece in front of those of what follows
pieces-found : (x : ℕ) (w s : List ℕ) (i j : ℕ) → ((k : ℕ) → k < i → LacksTextAt (x ∷ w) s k) → drop i s ≡ (x ∷ w) ++ drop j s → j ≡ i + suc (length w) → pieces (x ∷ w) s ≡ take i s ∷ pieces (x ∷ w) (drop j s)
pieces-found x w [] zero j lacks here ends = cc
pieces-found x w [] (suc i) j lacks here ends = cc
pieces-found x w (b ∷ bs) zero j lacks here ends =
    let front : rest_behind (x ∷ w) (b ∷ bs) ≡ Some (drop j (b ∷ bs)) = rest_behind-found (x ∷ w) (b ∷ bs) (drop j (b ∷ bs)) here in
    let cut : pieces_behind (x ∷ w) (length w) bs ≡ pieces (x ∷ w) (drop (length w) bs) = pieces_behind-drop (x ∷ w) (length w) bs in
    let next : j ≡ suc (length w) = omega (arith, ends) in
    (λ n. cut_or (front n) (cut n) (with_byte b (pieces (x ∷ w) bs))) ∙ ap (λ n. [] ∷ pieces (x ∷ w) (drop n (b ∷ bs))) (sym next)
pieces-found x w (b ∷ bs) (suc i) j lacks here ends =
    let k : ℕ = i + suc (length w) in
    let next : j ≡ suc k = omega (arith, ends) in
    let not_here : rest_behind (x ∷ w) (b ∷ bs) ≡ None = rest_behind-none (x ∷ w) (b ∷ bs) (lacks 0 (omega arith)) in
    let behind : drop i bs ≡ (x ∷ w) ++ drop k bs = here ∙ ap (λ n. (x ∷ w) ++ drop n (b ∷ bs)) next in
    let later : pieces (x ∷ w) bs ≡ take i bs ∷ pieces (x ∷ w) (drop k bs) = pieces-found x w bs i k (λ n h. lacks (suc n) (omega arith)) behind refl in
    (λ n. cut_or (not_here n) (pieces_behind (x ∷ w) (length w) bs) (with_byte b (later n))) ∙ ap (λ n. (b ∷ take i bs) ∷ pieces (x ∷ w) (drop n (b ∷ bs))) (sym next)

-- where it stands nowhere, the text is the only piece
pieces-none : (x : ℕ) (w s : List ℕ) → ((k : ℕ) → k ≤ length s → LacksTextAt (x ∷ w) s k) → pieces (x ∷ w) s ≡ s ∷ []
pieces-none x w [] lacks = refl
pieces-none x w (b ∷ bs) lacks =
    let not_here : rest_behind (x ∷ w) (b ∷ bs) ≡ None = rest_behind-none (x ∷ w) (b ∷ bs) (lacks 0 (omega arith)) in
    let later : pieces (x ∷ w) bs ≡ bs ∷ [] = pieces-none x w bs (λ k h. lacks (suc k) (omega arith)) in
    (λ n. cut_or (not_here n) (pieces_behind (x ∷ w) (length w) bs) (with_byte b (later n)))

-- the pieces that are left of a text, if any are
abbrev pub pieces_left : List ℕ → Bool → List ℕ → List (List ℕ)
pieces_left w true rest = pieces w rest
pieces_left w false rest = []

-- what a step of `split` gives is the first piece that was left
pub piece_first : (x : ℕ) (w s front rest : List ℕ) (live : Bool) → IsSplitAtFirstMatch (FindsText (x ∷ w)) s front live rest → pieces (x ∷ w) s ≡ front ∷ pieces_left (x ∷ w) live rest
piece_first x w s front rest live (_, (Some (i, j), found, cut)) =
    let some : 0 < j = omega (arith, found.1.ends) in
    let is = cut some in
    pieces-found x w s i j found.0 found.1.split found.1.ends ∙ (λ n. (sym is.0 n) ∷ pieces_left (x ∷ w) (sym is.1 n) (sym is.2 n))
piece_first x w s front rest live (_, (None, lacks, whole)) =
    pieces-none x w s lacks ∙ (λ n. (sym whole.0 n) ∷ pieces_left (x ∷ w) (sym whole.1 n) rest)

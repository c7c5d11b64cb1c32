-- How input falls into lines, and what the lines so far have written.
use Rattle.std.proofs.Common.{◌≡◌, ◌-◌, ℕ, suc, List, [], ◌∷◌, ◌++◌, Bool, true, false, length, take, get_or, cond, inl, inr, refl, sym, ap, ◌∙◌, subst, arith, append_assoc}
use Rattle.std.specs.Prelude.{Option, Some, None, IfSome, ◌≢◌, nat_eq, ◌<◌, ◌==◌, OnSome, OnOk, Result, Ok, Err}
use Rattle.std.specs.Io.BufRead.{take_through, drop_through, strip_last, DropsThrough}
use Rattle.std.specs.Io.KnownBytes.{Appends, IsAtEnd, Keeps}
use Rattle.std.proofs.lemmas.Bool.{cases_eq, eq-eqb, ne_eqb, lt-ltb, eqb-true, false≢true}
use Rattle.std.proofs.lemmas.List.{append-nil}
use Rattle.slotted_theory.specs.Term.{Term}
use Rattle.slotted_slots.specs.Syntax.{Element}
use Rattle.slotted_nodes.specs.Form.{Form}
use Rattle.std.specs.Str.{IsUtf8}
use Rattle.slotted_lines.specs.declared.told.Told.{Told}
use Rattle.slotted_lines.specs.Texts.{told_text}
use Rattle.slotted_lines.specs.Requests.{session_command_of}
use Rattle.slotted_lines.specs.AnsweredIn.{AnsweredIn}
use Rattle.slotted_lines.specs.States.{SessionState}
use Rattle.slotted_lines.specs.Streams.{with_first, lines_of, LineLeaves, LineWrites, one_line, LinesWrite, no_line, next_line, WritesFrom}

kept : (t : Bool) (b : ℕ) (xs ys : List ℕ) → cond t (b ∷ xs) (b ∷ ys) ≡ b ∷ cond t xs ys
kept true b xs ys = refl
kept false b xs ys = refl

-- a byte in front of a text leaves its end as it was
strip_last-cons : (b y : ℕ) (ys : List ℕ) → strip_last 10 (b ∷ y ∷ ys) ≡ b ∷ strip_last 10 (y ∷ ys)
strip_last-cons b y ys =
    let more : suc (suc (length ys)) - 1 ≡ suc (length ys) = omega arith in
    let less : suc (length ys) - 1 ≡ length ys = omega arith in
    rw (more, less, lt-ltb 0 (suc (suc (length ys))) (omega arith), lt-ltb 0 (suc (length ys)) (omega arith)) (kept (nat_eq (get_or (y ∷ ys) (length ys) 0) 10) b (take (length ys) (y ∷ ys)) (y ∷ ys))

take_through-some : (b : ℕ) (bs : List ℕ) → (y : ℕ) × (ys : List ℕ) × (take_through 10 (b ∷ bs) ≡ y ∷ ys)
take_through-some b bs = elim (cases_eq b 10) [
  | inl same ↦ (b, [], rw (eq-eqb b 10 same) refl)
  | inr other ↦ (b, take_through 10 bs, rw (ne_eqb b 10 other) refl)
]

strip_last-one : (b : ℕ) → b ≢ 10 → strip_last 10 (b ∷ []) ≡ b ∷ []
strip_last-one b other = ap (λ t. cond t [] (b ∷ [])) (ne_eqb b 10 other)

ends_at : (b : ℕ) (bs : List ℕ) → b ≡ 10 → lines_of (b ∷ bs) ≡ strip_last 10 (take_through 10 (b ∷ bs)) ∷ lines_of (drop_through 10 (b ∷ bs))
ends_at b bs same = subst (λ x. lines_of (x ∷ bs) ≡ strip_last 10 (take_through 10 (x ∷ bs)) ∷ lines_of (drop_through 10 (x ∷ bs))) (sym same) refl

-- the first line is what stands up to the first line feed, and the others follow it
pub lines_of-some : (b : ℕ) (bs : List ℕ) → lines_of (b ∷ bs) ≡ strip_last 10 (take_through 10 (b ∷ bs)) ∷ lines_of (drop_through 10 (b ∷ bs))
lines_of-some b [] = elim (cases_eq b 10) [
  | inl same ↦ ends_at b [] same
  | inr other ↦ rw (ne_eqb b 10 other) (ap (λ l. l ∷ []) (sym (strip_last-one b other)))
]
lines_of-some b (c ∷ cs) = elim (cases_eq b 10) [
  | inl same ↦ ends_at b (c ∷ cs) same
  | inr other ↦
      let s = take_through-some c cs in
      let longer = subst (λ t. strip_last 10 (b ∷ t) ≡ b ∷ strip_last 10 t) (sym s.2) (strip_last-cons b s.0 s.1) in
      rw (ne_eqb b 10 other) (ap (with_first b) (lines_of-some c cs) ∙ ap (λ l. l ∷ lines_of (drop_through 10 (c ∷ cs))) (sym longer))
]

-- from r₀ to r these bytes were read, and from g₀ on their lines have written what c holds more than c₀: whatever the lines
-- to come write over g is what all lines write after it
pub record SoFar {L : Type 0} (read : List Element → Option Form) (written : Term → List Element) (form : L → Form) (g₀ g : SessionState L) (c₀ c : Option (List ℕ)) (input rest : List ℕ) : Type 0 where
  pub bytes : List ℕ
  pub appended : Appends c₀ c bytes
  pub goes_on : (more : List ℕ) (h : SessionState L) → LinesWrite read written form g (lines_of rest) more h → LinesWrite read written form g₀ (lines_of input) (bytes ++ more) h

-- the same of a reader, where its bytes are known
abbrev pub ReadSoFar : {L : Type 0} → (List Element → Option Form) → (Term → List Element) → (L → Form) → SessionState L → SessionState L → Option (List ℕ) → Option (List ℕ) → Option (List ℕ) → Option (List ℕ) → Type 0
ReadSoFar read written form g₀ g r₀ r c₀ c = IfSome r₀ (λ input. (rest : List ℕ) × (r ≡ Some rest) × SoFar read written form g₀ g c₀ c input rest)

pub Appends-nothing : (c : Option (List ℕ)) → Appends c c []
Appends-nothing None = tt
Appends-nothing (Some xs) = sym (append-nil xs)

Appends-then : (a b c : Option (List ℕ)) (xs ys : List ℕ) → Appends a b xs → Appends b c ys → Appends a c (xs ++ ys)
Appends-then None b c xs ys p q = tt
Appends-then (Some x) None c xs ys p q = absurd p
Appends-then (Some x) (Some y) None xs ys p q = absurd q
Appends-then (Some x) (Some y) (Some z) xs ys p q = q ∙ ap (λ w. w ++ ys) p ∙ append_assoc x xs ys

pub so_far_starts : {L : Type 0} (read : List Element → Option Form) (written : Term → List Element) (form : L → Form) (g : SessionState L) (r c : Option (List ℕ)) → ReadSoFar read written form g g r r c c
so_far_starts read written form g None c = tt
so_far_starts read written form g (Some xs) c = (xs, refl, record { bytes = []; appended = Appends-nothing c; goes_on = λ more h w. w })

-- at the end of the input all its lines are is_answered
pub so_far_ends : {L : Type 0} (read : List Element → Option Form) (written : Term → List Element) (form : L → Form) (g₀ g : SessionState L) (r₀ r c₀ c : Option (List ℕ)) → ReadSoFar read written form g₀ g r₀ r c₀ c → IsAtEnd r → IfSome r₀ (λ input. WritesFrom read written form g₀ input (Appends c₀ c))
so_far_ends read written form g₀ g None r c₀ c s e = tt
so_far_ends read written form g₀ g (Some input) None c₀ c s e = cc (s.1)
so_far_ends read written form g₀ g (Some input) (Some left) c₀ c s e =
    let done : s.0 ≡ [] = cc (s.1, e) in
    let all = s.2.goes_on [] g (subst (λ x. LinesWrite read written form g (lines_of x) [] g) (sym done) no_line) in
    (s.2.bytes, g, subst (λ b. LinesWrite read written form g₀ (lines_of input) b g) (append-nil s.2.bytes) all, s.2.appended)

-- one more line is is_answered
pub so_far_steps : {L : Type 0} (read : List Element → Option Form) (written : Term → List Element) (form : L → Form) (g₀ g h : SessionState L) (r₀ r r' c₀ c c' : Option (List ℕ)) (line bs : List ℕ)
    → ReadSoFar read written form g₀ g r₀ r c₀ c → IfSome r (λ xs. line ≡ take_through 10 xs) → DropsThrough r r' 10 → 0 < length line → LineWrites read written form g (strip_last 10 line) bs h → Appends c c' bs
    → ReadSoFar read written form g₀ h r₀ r' c₀ c'
so_far_steps read written form g₀ g h None r r' c₀ c c' line bs s is_line drops some writes appends = tt
so_far_steps read written form g₀ g h (Some input) None r' c₀ c c' line bs s is_line drops some writes appends = cc (s.1)
so_far_steps read written form g₀ g h (Some input) (Some []) r' c₀ c c' line bs s is_line drops some writes appends = absurd (omega (arith, some, ap length is_line))
so_far_steps read written form g₀ g h (Some input) (Some (b ∷ left)) r' c₀ c c' line bs s is_line drops some writes appends =
    let same : s.0 ≡ b ∷ left = cc (s.1) in
    let first : LineWrites read written form g (strip_last 10 (take_through 10 (b ∷ left))) bs h = subst (λ l. LineWrites read written form g (strip_last 10 l) bs h) is_line writes in
    let lines : lines_of s.0 ≡ strip_last 10 (take_through 10 (b ∷ left)) ∷ lines_of (drop_through 10 (b ∷ left)) = ap lines_of same ∙ lines_of-some b left in (
      drop_through 10 (b ∷ left),
      drops,
      record {
        bytes = s.2.bytes ++ bs;
        appended = Appends-then c₀ c c' s.2.bytes bs s.2.appended appends;
        goes_on = λ more k w. subst (λ x. LinesWrite read written form g₀ (lines_of input) x k) (sym (append_assoc s.2.bytes bs more))
            (s.2.goes_on (bs ++ more) k (subst (λ ls. LinesWrite read written form g ls (bs ++ more) k) (sym lines) (next_line first w)));
      },
    )

-- and the reader is at its end
pub stays_at_end : {L : Type 0} (read : List Element → Option Form) (written : Term → List Element) (form : L → Form) (g₀ g : SessionState L) (r₀ r r' c₀ c : Option (List ℕ)) → ReadSoFar read written form g₀ g r₀ r c₀ c → IsAtEnd r → DropsThrough r r' 10 → OnSome r₀ (IsAtEnd r')
stays_at_end read written form g₀ g None r r' c₀ c s e drops = tt
stays_at_end read written form g₀ g (Some input) None r' c₀ c s e drops = cc (s.1)
stays_at_end read written form g₀ g (Some input) (Some []) r' c₀ c s e drops = subst IsAtEnd (sym drops) refl
stays_at_end read written form g₀ g (Some input) (Some (b ∷ left)) r' c₀ c s e drops = cc

-- what was read into an empty buffer
pub only_line : (r : Option (List ℕ)) (old new line : List ℕ) → IfSome r (λ xs. new ≡ old ++ take_through 10 xs) → old ≡ [] → line ≡ new → IfSome r (λ xs. line ≡ take_through 10 xs)
only_line None old new line h empty same = tt
only_line (Some xs) old new line h empty same = same ∙ h ∙ ap (λ o. o ++ take_through 10 xs) empty

pub is_empty : (xs : List ℕ) → (length xs == 0) ≡ true → xs ≡ []
is_empty [] e = refl
is_empty (x ∷ xs) e = let z = eqb-true (suc (length xs)) 0 e in absurd (omega (arith, z))

not_empty : (xs : List ℕ) → (length xs == 0) ≡ false → 0 < length xs
not_empty [] e = absurd (false≢true (sym e))
not_empty (x ∷ xs) e = omega arith

Appends-kept : (a b c : Option (List ℕ)) (xs : List ℕ) → Appends a b xs → Keeps b c → Appends a c xs
Appends-kept None b c xs p k = tt
Appends-kept (Some x) None c xs p k = absurd p
Appends-kept (Some x) (Some y) None xs p k = absurd k
Appends-kept (Some x) (Some y) (Some z) xs p k = k ∙ p

-- one line that is text
line_writes : {L : Type 0} (read : List Element → Option Form) (written : Term → List Element) (form : L → Form) (g h : SessionState L) (a : Told) (line bytes text : List ℕ)
    → bytes ≡ line → text ≡ bytes → IsUtf8 bytes → (length text == 0) ≡ false → AnsweredIn read written form g h (session_command_of text) a → LineWrites read written form g line (told_text a ++ 10 ∷ []) h
line_writes read written form g h a line bytes text same is_text utf8 some is_answered =
    subst (λ l. LineWrites read written form g l (told_text a ++ 10 ∷ []) h) (is_text ∙ same) (one_line (not_empty text some) (subst IsUtf8 (sym is_text) utf8) is_answered)

-- what it leaves, whether its answer is written out or not
pub line_left : {L : Type 0} (read : List Element → Option Form) (written : Term → List Element) (form : L → Form) (g h : SessionState L) (a : Told) (line bytes text : List ℕ)
    → bytes ≡ line → text ≡ bytes → IsUtf8 bytes → (length text == 0) ≡ false → AnsweredIn read written form g h (session_command_of text) a → LineLeaves read written form g line h
line_left read written form g h a line bytes text same is_text utf8 some is_answered = (told_text a ++ 10 ∷ [], line_writes read written form g h a line bytes text same is_text utf8 some is_answered)

-- and where it was
pub line_answered : {L : Type 0} (read : List Element → Option Form) (written : Term → List Element) (form : L → Form) (g h : SessionState L) (a : Told) (line bytes text : List ℕ) (c₀ c₁ c₂ : Option (List ℕ))
    → bytes ≡ line → text ≡ bytes → IsUtf8 bytes → (length text == 0) ≡ false → AnsweredIn read written form g h (session_command_of text) a → Appends c₀ c₁ (told_text a ++ 10 ∷ []) → Keeps c₁ c₂
    → (bs : List ℕ) × LineWrites read written form g line bs h × Appends c₀ c₂ bs
line_answered read written form g h a line bytes text c₀ c₁ c₂ same is_text utf8 some is_answered appends keeps =
    (told_text a ++ 10 ∷ [], line_writes read written form g h a line bytes text same is_text utf8 some is_answered, Appends-kept c₀ c₁ c₂ _ appends keeps)

pub on_ok : {T E : Type 0} {P : Type 0} (r : Result T E) → P → OnOk r P
on_ok (Ok x) p = p
on_ok (Err e) p = tt

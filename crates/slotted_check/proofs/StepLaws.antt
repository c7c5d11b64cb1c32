-- Each step keeps that both sides are terms of which it follows that they are equal.
use Rattle.std.proofs.Common.{◌≡◌, ℕ, List, [], ◌++◌, sym, ◌∙◌, ap, refl, append-nil}
use Rattle.slotted_theory.specs.Nameless.{DTerm, moved}
use Rattle.slotted_theory.specs.Renaming.{IsInjective}
use Rattle.slotted_theory.specs.Derives.{reflexive, turned, joined, moving}
use Rattle.slotted_theory.proofs.Equals.{Equal-along, Equal-more}
use Rattle.slotted_check.specs.declared.pieces.Piece.{Piece}
use Rattle.slotted_check.specs.Rows.{row, moved_row, IsPlain, SaysAs, Joins}
use Rattle.slotted_check.specs.Following.{Follows, RowsFollow}
use Rattle.slotted_check.proofs.MovedRows.{moved_row-row, IsPlain-moved}
use Rattle.slotted_check.proofs.OneReading.{one_term}
use Rattle.std.proofs.lemmas.List.Elements.{All-append, All-nil, Contains-append_left, Contains-append_right}

-- a moved row without anything behind it
pub moved_row-alone : (f : ℕ → ℕ) (d : DTerm) → moved_row f (row d) ≡ row (moved f d)
moved_row-alone f d = ap (moved_row f) (sym (append-nil (row d))) ∙ (moved_row-row f d [] ∙ append-nil (row (moved f d)))

Follows-moved : {allowed : DTerm × DTerm → Type 0} {d e : DTerm} (f : ℕ → ℕ) → IsInjective f → Follows allowed d e → Follows allowed (moved f d) (moved f e)
Follows-moved f i h = record { pairs = h.pairs; each = h.each; equal = moving f i h.equal }

pub Follows-turned : {allowed : DTerm × DTerm → Type 0} {d e : DTerm} → Follows allowed d e → Follows allowed e d
Follows-turned h = record { pairs = h.pairs; each = h.each; equal = turned h.equal }

pub Follows-itself : {allowed : DTerm × DTerm → Type 0} (d : DTerm) → Follows allowed d d
Follows-itself {allowed} d = record { pairs = []; each = All-nil allowed; equal = reflexive }

-- a line that is another one under a renaming
pub says-follows : {allowed : DTerm × DTerm → Type 0} {l r l' r' : List Piece} → SaysAs l r l' r' → RowsFollow allowed l r → RowsFollow allowed l' r'
says-follows s h = record {
  left = moved s.names h.left;
  right = moved s.names h.right;
  left_row = sym s.left ∙ (ap (moved_row s.names) h.left_row ∙ moved_row-alone s.names h.left);
  right_row = sym s.right ∙ (ap (moved_row s.names) h.right_row ∙ moved_row-alone s.names h.right);
  left_plain = IsPlain-moved s.names h.left h.left_plain;
  right_plain = IsPlain-moved s.names h.right h.right_plain;
  follows = Follows-moved s.names s.injective h.follows;
}

pub turned-follows : {allowed : DTerm × DTerm → Type 0} {l r : List Piece} → RowsFollow allowed l r → RowsFollow allowed r l
turned-follows h = record {
  left = h.right;
  right = h.left;
  left_row = h.right_row;
  right_row = h.left_row;
  left_plain = h.right_plain;
  right_plain = h.left_plain;
  follows = Follows-turned h.follows;
}

pub Follows-joined : {allowed : DTerm × DTerm → Type 0} {d e f : DTerm} → Follows allowed d e → Follows allowed e f → Follows allowed d f
Follows-joined {allowed} h k = record {
  pairs = h.pairs ++ k.pairs;
  each = All-append allowed h.pairs k.pairs h.each k.each;
  equal = joined (Equal-more (Contains-append_left h.pairs k.pairs) h.equal) (Equal-more (Contains-append_right h.pairs k.pairs) k.equal);
}

pub Follows-along : {allowed : DTerm × DTerm → Type 0} {d d' e e' : DTerm} → d ≡ d' → e ≡ e' → Follows allowed d e → Follows allowed d' e'
Follows-along p q h = record { pairs = h.pairs; each = h.each; equal = Equal-along p q h.equal }

-- two lines that meet in the middle
pub joined-follows : {allowed : DTerm × DTerm → Type 0} {l r l1 m1 m2 r2 : List Piece} → Joins l r l1 m1 m2 r2 →
    RowsFollow allowed l1 m1 → RowsFollow allowed m2 r2 → RowsFollow allowed l r
joined-follows {m1 = m1} {m2 = m2} s h k =
    let one : moved_row s.first m1 ≡ row (moved s.first h.right) = ap (moved_row s.first) h.right_row ∙ moved_row-alone s.first h.right in
    let two : moved_row s.second m2 ≡ row (moved s.second k.left) = ap (moved_row s.second) k.left_row ∙ moved_row-alone s.second k.left in
    let rows : row (moved s.first h.right) ++ [] ≡ row (moved s.second k.left) ++ [] = ap (λ ps. ps ++ []) (sym one ∙ (s.meets ∙ two)) in
    let meet = one_term (moved s.first h.right) (moved s.second k.left) [] [] (IsPlain-moved s.first h.right h.right_plain) (IsPlain-moved s.second k.left k.left_plain) rows in
    record {
      left = moved s.first h.left;
      right = moved s.second k.right;
      left_row = sym s.begins ∙ (ap (moved_row s.first) h.left_row ∙ moved_row-alone s.first h.left);
      right_row = sym s.ends ∙ (ap (moved_row s.second) k.right_row ∙ moved_row-alone s.second k.right);
      left_plain = IsPlain-moved s.first h.left h.left_plain;
      right_plain = IsPlain-moved s.second k.right k.right_plain;
      follows = Follows-joined (Follows-moved s.first s.first_injective h.follows)
          (Follows-along (sym meet.0) refl (Follows-moved s.second s.second_injective k.follows));
    }

-- both sides are one term
pub reflexive-follows : {allowed : DTerm × DTerm → Type 0} (d : DTerm) {l r : List Piece} → IsPlain d → l ≡ row d → l ≡ r → RowsFollow allowed l r
reflexive-follows d p h e = record {
  left = d;
  right = d;
  left_row = h;
  right_row = sym e ∙ h;
  left_plain = p;
  right_plain = p;
  follows = Follows-itself d;
}

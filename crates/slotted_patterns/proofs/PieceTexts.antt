-- Pieces on a stack, the texts that they print and their weights.
use Rattle.std.proofs.Common.{◌≡◌, ℕ, suc, ◌+◌, ◌≤◌, List, [], ◌∷◌, ◌++◌, map, reverse, length, codes, option_to_list, refl, sym, ap, ◌∙◌, rules, arith, append_assoc, append-nil, Vec, String}
use Rattle.std.specs.Prelude.{Option, Some, Box, Result, Ok, Err, OnOk}
use Rattle.std.proofs.lemmas.List.{reverse-append, length-append}
use Rattle.std.specs.declared.alloc.Global.{Global}
use Rattle.slotted_slots.specs.Syntax.{Element}
use Rattle.slotted_slots.specs.Table.{Table}
use Rattle.slotted_patterns.specs.Pieces.{Stacks, node_weight, pattern_weight, pending, piece_text, substitution_weight, texts, weight, weights}
use Rattle.slotted_patterns.specs.Shown.{part_texts, spaced, node_text}
use Rattle.slotted_patterns.specs.declared.pattern.Pattern.{Pattern, ENode, PVar, Subst, the_lemmas}
use Rattle.slotted_patterns.proofs.NodeTexts.{bracketed-one, bracketed-other, length-part_texts}
use Rattle.slotted_patterns.specs.declared.pattern.printing.Piece.{Piece}

module _ {L : Type 0} (written : L → List Element) where
  pub texts-append : (t : Table) (qs rs : List (Piece L)) → texts written t (qs ++ rs) ≡ texts written t qs ++ texts written t rs
  texts-append t [] rs = refl
  texts-append t (q ∷ qs) rs = ap (λ x. piece_text written t q ++ x) (texts-append t qs rs) ∙ sym (append_assoc (piece_text written t q) (texts written t qs) (texts written t rs))

  pub pending-append : (t : Table) (qs rs : List (Piece L)) → pending written t (qs ++ rs) ≡ pending written t rs ++ pending written t qs
  pending-append t [] rs = sym (append-nil (pending written t rs))
  pending-append t (q ∷ qs) rs = ap (λ x. x ++ piece_text written t q) (pending-append t qs rs) ∙ append_assoc (pending written t rs) (pending written t qs) (piece_text written t q)

  pub weights-append : (qs rs : List (Piece L)) → weights written (qs ++ rs) ≡ weights written qs + weights written rs
  weights-append [] rs = omega arith
  weights-append (q ∷ qs) rs = omega (arith, weights-append qs rs)

  texts-reverse : (t : Table) (qs : List (Piece L)) → pending written t (reverse qs) ≡ texts written t qs
  texts-reverse t [] = refl
  texts-reverse t (q ∷ qs) =
      ap (pending written t) (reverse-append (q ∷ []) qs) ∙ (pending-append t (reverse qs) (q ∷ []) ∙ ap (λ x. piece_text written t q ++ x) (texts-reverse t qs))

  weights-reverse : (qs : List (Piece L)) → weights written (reverse qs) ≡ weights written qs
  weights-reverse [] = refl
  weights-reverse (q ∷ qs) =
      let here = ap (weights written) (reverse-append (q ∷ []) qs) in
      omega (arith, here, weights-append (reverse qs) (q ∷ []), weights-reverse qs)

  -- one piece more
  pub pushed : (old new : List (Piece L)) (q : Piece L) → new ≡ old ++ q ∷ [] → Stacks written (λ t. piece_text written t q) (weight written q) old new
  pushed old new q is = record {
    same = λ t. ap (pending written t) is ∙ pending-append t old (q ∷ []);
    light = omega (arith, ap (weights written) is, weights-append old (q ∷ []));
  }

  -- pieces with the first uppermost
  pub stacked : (old new qs : List (Piece L)) → new ≡ old ++ reverse qs → Stacks written (λ t. texts written t qs) (weights written qs) old new
  stacked old new qs is = record {
    same = λ t. ap (pending written t) is ∙ (pending-append t old (reverse qs) ∙ ap (λ x. x ++ pending written t old) (texts-reverse t qs));
    light = omega (arith, ap (weights written) is, weights-append old (reverse qs), weights-reverse qs);
  }

  -- what is put on a stack later is written before
  pub then : {a b : Table → List ℕ} {h k : ℕ} (old mid new : List (Piece L)) → Stacks written b k mid new → Stacks written a h old mid → Stacks written (λ t. b t ++ a t) (k + h) old new
  then {a} {b} {h} {k} old mid new later first = record {
    same = λ t. later.same t ∙ (ap (λ x. b t ++ x) (first.same t) ∙ sym (append_assoc (b t) (a t) (pending written t old)));
    light = omega (arith, later.light, first.light);
  }

  -- the same text, and no less weight
  pub stacks_as : {a b : Table → List ℕ} {h k : ℕ} {old new : List (Piece L)} → ((t : Table) → a t ≡ b t) → h ≤ k → Stacks written a h old new → Stacks written b k old new
  stacks_as {old = old} same more s = record {
    same = λ t. s.same t ∙ ap (λ x. x ++ pending written t old) (same t);
    light = omega (arith, s.light, more);
  }

  pub pattern_weight-ENode : (n : L) (ps : Vec (Pattern L) Global) → pattern_weight written (ENode n ps) ≡ node_weight (written n) (map (pattern_weight written) ps.items)
  pattern_weight-ENode n ps = search (rules, the_lemmas)

  pub pattern_weight-PVar : (v : String Global) → pattern_weight written (PVar v) ≡ 2
  pattern_weight-PVar v = search (rules, the_lemmas)

  pub pattern_weight-Subst : (b x v : Box (Pattern L) Global) → pattern_weight written (Subst b x v) ≡ substitution_weight (pattern_weight written b.value) (pattern_weight written x.value) (pattern_weight written v.value)
  pattern_weight-Subst b x v = search (rules, the_lemmas)

  -- the pieces of one more element
  pub two_more : (t : Table) (qs one two : List (Piece L)) (q r : Piece L) → one ≡ qs ++ q ∷ [] → two ≡ one ++ r ∷ [] → texts written t two ≡ (texts written t qs ++ piece_text written t q) ++ piece_text written t r
  two_more t qs one two q r first second =
      ap (texts written t) second ∙ (texts-append t one (r ∷ []) ∙ ((λ i. (ap (texts written t) first ∙ (texts-append t qs (q ∷ []) ∙ ap (λ x. texts written t qs ++ x) (append-nil (piece_text written t q)))) i ++ append-nil (piece_text written t r) i)))

  pub two_weigh : (qs one two : List (Piece L)) (q r : Piece L) → one ≡ qs ++ q ∷ [] → two ≡ one ++ r ∷ [] → weights written two ≡ weights written qs + weight written q + weight written r
  two_weigh qs one two q r first second =
      omega (arith, ap (weights written) second, weights-append one (r ∷ []), ap (weights written) first, weights-append qs (q ∷ []))

  -- the uppermost piece, and the others
  pub popped : (t : Table) (all rest : List (Piece L)) (o : Option (Piece L)) (q : Piece L) → all ≡ rest ++ option_to_list o → o ≡ Some q → pending written t all ≡ piece_text written t q ++ pending written t rest
  popped t all rest o q last is =
      ap (pending written t) (last ∙ ap (λ p. rest ++ option_to_list p) is) ∙ pending-append t rest (q ∷ [])

  pub popped_weight : (all rest : List (Piece L)) (o : Option (Piece L)) (q : Piece L) → all ≡ rest ++ option_to_list o → o ≡ Some q → weights written all ≡ weights written rest + weight written q
  popped_weight all rest o q last is =
      omega (arith, ap (weights written) (last ∙ ap (λ p. rest ++ option_to_list p) is), weights-append rest (q ∷ []))

-- the last of a list comes first in its reverse
pub reverse_last : {A : Type 0} (all rest : List A) (o : Option A) (x : A) → all ≡ rest ++ option_to_list o → o ≡ Some x → reverse all ≡ x ∷ reverse rest
reverse_last all rest o x last is =
    ap reverse (last ∙ ap (λ p. rest ++ option_to_list p) is) ∙ reverse-append rest (x ∷ [])

pub length_last : {A : Type 0} (all rest : List A) (o : Option A) (x : A) → all ≡ rest ++ option_to_list o → o ≡ Some x → length all ≡ suc (length rest)
length_last all rest o x last is =
    omega (arith, ap length (last ∙ ap (λ p. rest ++ option_to_list p) is), length-append rest (x ∷ []))

-- a node's text from that of its elements
pub alone_text : (t : Table) (es : List Element) (us : List (List ℕ)) → length es ≡ 1 → spaced [] (part_texts t es us) ≡ node_text t es us
alone_text t es us one = bracketed-one (part_texts t es us) (spaced [] (part_texts t es us)) (length-part_texts t es us ∙ one) refl

pub several_text : (t : Table) (es : List Element) (us : List (List ℕ)) → ¬ (length es ≡ 1) → codes "(" ++ (spaced [] (part_texts t es us) ++ codes ")") ≡ node_text t es us
several_text t es us other = bracketed-other (part_texts t es us) (spaced [] (part_texts t es us)) (λ one. other (sym (length-part_texts t es us) ∙ one)) refl

-- where a call does no less, what it does may be said so
pub on_ok : {A E P Q : Type 0} (r : Result A E) → (P → Q) → OnOk r P → OnOk r Q
on_ok (Ok x) f h = f h
on_ok (Err e) f h = h

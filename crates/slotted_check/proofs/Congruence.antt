-- Two rows that are the same but for parts, of which the left one is that of a term, are rows of terms that are equal in turn.
use Rattle.std.proofs.Common.{◌≡◌, ℕ, List, [], ◌∷◌, ◌++◌, sym, ◌∙◌, ap, refl, subst, arith, append_assoc}
use Rattle.std.proofs.lemmas.List.{append-nil}
use Rattle.std.proofs.lemmas.List.Elements.{All-append, All-nil, Contains-append_left, Contains-append_right}
use Rattle.std.specs.Prelude.{All, Contains}
use Rattle.slotted_theory.specs.Nameless.{DArgs, DTerm, stop, place, sub, scope}
use Rattle.slotted_theory.specs.Derives.{listed, within, EqualArgs, equal_done, equal_name, equal_child, equal_bind}
use Rattle.slotted_theory.proofs.Equals.{Equal-along, Equal-more, EqualArgs-through}
use Rattle.slotted_theory.proofs.Values.{node}
use Rattle.slotted_check.specs.declared.pieces.Piece.{Piece}
use Rattle.slotted_check.specs.declared.pieces.Piece.TheVariants.{Head, Name, Scope, Leave, Close}
use Rattle.slotted_check.specs.Rows.{End, closing, leaving, row_args, row, ArePlain, IsPlain, Walks, ended, same, part}
use Rattle.slotted_check.specs.Following.{Follows, RowsFollow}
use Rattle.slotted_check.proofs.OneReading.{AreOne, first_kind, rest_of, end-kind, one_term}
use Rattle.slotted_check.proofs.StepLaws.{Follows-along}

-- arguments that are equal in turn by allowed pairs
pub record ArgsFollow (allowed : DTerm × DTerm → Type 0) (a b : DArgs) : Type 0 where
  pub pairs : List (DTerm × DTerm)
  pub each : All allowed pairs
  pub equal : EqualArgs pairs a b

EqualArgs-more : {E F : List (DTerm × DTerm)} → ((p : DTerm × DTerm) → Contains E p → Contains F p) → {a b : DArgs} → EqualArgs E a b → EqualArgs F a b
EqualArgs-more h p = EqualArgs-through (λ d e c. listed (h (d, e) c)) p

done-follow : {allowed : DTerm × DTerm → Type 0} → ArgsFollow allowed stop stop
done-follow {allowed} = record { pairs = []; each = All-nil allowed; equal = equal_done }

name-follows : {allowed : DTerm × DTerm → Type 0} (x : ℕ) {a b : DArgs} → ArgsFollow allowed a b → ArgsFollow allowed (place x a) (place x b)
name-follows x h = record { pairs = h.pairs; each = h.each; equal = equal_name h.equal }

child-follows : {allowed : DTerm × DTerm → Type 0} {d e : DTerm} {a b : DArgs} → Follows allowed d e → ArgsFollow allowed a b →
    ArgsFollow allowed (sub d.op d.payloads d.args a) (sub e.op e.payloads e.args b)
child-follows {allowed} h k = record {
  pairs = h.pairs ++ k.pairs;
  each = All-append allowed h.pairs k.pairs h.each k.each;
  equal = equal_child (Equal-more (Contains-append_left h.pairs k.pairs) h.equal) (EqualArgs-more (Contains-append_right h.pairs k.pairs) k.equal);
}

bind-follows : {allowed : DTerm × DTerm → Type 0} {a b r s : DArgs} → ArgsFollow allowed a b → ArgsFollow allowed r s → ArgsFollow allowed (scope a r) (scope b s)
bind-follows {allowed} h k = record {
  pairs = h.pairs ++ k.pairs;
  each = All-append allowed h.pairs k.pairs h.each k.each;
  equal = equal_bind (EqualArgs-more (Contains-append_left h.pairs k.pairs) h.equal) (EqualArgs-more (Contains-append_right h.pairs k.pairs) k.equal);
}

-- a node over arguments that are equal in turn
node-follows : {allowed : DTerm × DTerm → Type 0} (n : ℕ) (m : List (List ℕ)) {a b : DArgs} → m ≡ [] → ArgsFollow allowed a b → Follows allowed (node n m a) (node n [] b)
node-follows n m {a} {b} e h = record { pairs = h.pairs; each = h.each; equal = Equal-along refl (λ i. node n (e i) b) (within h.equal) }

-- the first piece of a row, if it has one
abbrev first_or : Piece → List Piece → Piece
first_or p [] = p
first_or p (q ∷ ps) = q

-- what stands on the right where arguments were walked along on the left
record Walked (allowed : DTerm × DTerm → Type 0) (e : End) (a : DArgs) (ys rest : List Piece) : Type 0 where
  args : DArgs
  behind : List Piece
  is : ys ≡ row_args e args ++ behind
  plain : ArePlain args
  follow : ArgsFollow allowed a args
  walk : Walks (RowsFollow allowed) rest behind

-- a part begins with the head of a node
part-kind : {allowed : DTerm × DTerm → Type 0} {a b : List Piece} (xs : List Piece) → RowsFollow allowed a b → first_kind (a ++ xs) ≡ 0
part-kind xs f = ap (λ ps. first_kind (ps ++ xs)) f.left_row

walked : {allowed : DTerm × DTerm → Type 0} (e : End) (a : DArgs) (xs ys rest : List Piece) → ArePlain a → xs ≡ row_args e a ++ rest →
    Walks (RowsFollow allowed) xs ys → Walked allowed e a ys rest
walked e stop xs ys rest p h ended = let k : AreOne 4 3 = ap first_kind h ∙ end-kind e in absurd (omega arith)
walked {allowed} e stop xs ys rest p h (same q {xs = us} {ys = vs} w) = record {
  args = stop;
  behind = vs;
  is = λ i. first_or q (h i) ∷ vs;
  plain = tt;
  follow = done-follow;
  walk = subst (λ ps. Walks (RowsFollow allowed) ps vs) (ap rest_of h) w;
}
walked e stop xs ys rest p h (part {xs = us} f w) = let k : AreOne 0 3 = sym (part-kind us f) ∙ (ap first_kind h ∙ end-kind e) in absurd (omega arith)
walked e (place x r) xs ys rest p h ended = let k : AreOne 4 1 = ap first_kind h in absurd (omega arith)
walked {allowed} e (place x r) xs ys rest p h (same q {xs = us} {ys = vs} w) =
    let g : Walked allowed e r vs rest = walked e r us vs rest p (ap rest_of h) w in
    record {
      args = place x g.args;
      behind = g.behind;
      is = λ i. first_or q (h i) ∷ g.is i;
      plain = g.plain;
      follow = name-follows x g.follow;
      walk = g.walk;
    }
walked e (place x r) xs ys rest p h (part {xs = us} f w) = let k : AreOne 0 1 = sym (part-kind us f) ∙ ap first_kind h in absurd (omega arith)
walked e (sub n m c r) xs ys rest p h ended = let k : AreOne 4 0 = ap first_kind h in absurd (omega arith)
walked {allowed} e (sub n m c r) xs ys rest p h (same q {xs = us} {ys = vs} w) =
    let t : us ≡ row_args closing c ++ (row_args e r ++ rest) = ap rest_of h ∙ append_assoc (row_args closing c) (row_args e r) rest in
    let f : Walked allowed closing c vs (row_args e r ++ rest) = walked closing c us vs (row_args e r ++ rest) p.1 t w in
    let g : Walked allowed e r f.behind rest = walked e r (row_args e r ++ rest) f.behind rest p.2 refl f.walk in
    let v : vs ≡ (row_args closing f.args ++ row_args e g.args) ++ g.behind =
    f.is ∙ (ap (λ ps. row_args closing f.args ++ ps) g.is ∙ sym (append_assoc (row_args closing f.args) (row_args e g.args) g.behind)) in
    record {
      args = sub n [] f.args g.args;
      behind = g.behind;
      is = λ i. first_or q (h i) ∷ v i;
      plain = (refl, f.plain, g.plain);
      follow = child-follows (node-follows n m p.0 f.follow) g.follow;
      walk = g.walk;
    }
walked {allowed} e (sub n m c r) xs ys rest p h (part {a = a} {b = b} {xs = us} {ys = vs} f w) =
    let t : row f.left ++ us ≡ row (node n m c) ++ (row_args e r ++ rest) =
    sym (ap (λ ps. ps ++ us) f.left_row) ∙ (h ∙ ap (λ ps. Head n ∷ ps) (append_assoc (row_args closing c) (row_args e r) rest)) in
    let o = one_term f.left (node n m c) us (row_args e r ++ rest) f.left_plain (p.0, p.1) t in
    let g : Walked allowed e r vs rest = walked e r us vs rest p.2 o.1 w in
    record {
      args = sub f.right.op f.right.payloads f.right.args g.args;
      behind = g.behind;
      is = ap (λ ps. ps ++ vs) f.right_row ∙ (ap (λ ps. row f.right ++ ps) g.is
          ∙ ap (λ ps. Head f.right.op ∷ ps) (sym (append_assoc (row_args closing f.right.args) (row_args e g.args) g.behind)));
      plain = (f.right_plain.0, f.right_plain.1, g.plain);
      follow = child-follows (Follows-along o.0 refl f.follows) g.follow;
      walk = g.walk;
    }
walked e (scope c r) xs ys rest p h ended = let k : AreOne 4 2 = ap first_kind h in absurd (omega arith)
walked {allowed} e (scope c r) xs ys rest p h (same q {xs = us} {ys = vs} w) =
    let t : us ≡ row_args leaving c ++ (row_args e r ++ rest) = ap rest_of h ∙ append_assoc (row_args leaving c) (row_args e r) rest in
    let f : Walked allowed leaving c vs (row_args e r ++ rest) = walked leaving c us vs (row_args e r ++ rest) p.0 t w in
    let g : Walked allowed e r f.behind rest = walked e r (row_args e r ++ rest) f.behind rest p.1 refl f.walk in
    let v : vs ≡ (row_args leaving f.args ++ row_args e g.args) ++ g.behind =
    f.is ∙ (ap (λ ps. row_args leaving f.args ++ ps) g.is ∙ sym (append_assoc (row_args leaving f.args) (row_args e g.args) g.behind)) in
    record {
      args = scope f.args g.args;
      behind = g.behind;
      is = λ i. first_or q (h i) ∷ v i;
      plain = (f.plain, g.plain);
      follow = bind-follows f.follow g.follow;
      walk = g.walk;
    }
walked e (scope c r) xs ys rest p h (part {xs = us} f w) = let k : AreOne 0 2 = sym (part-kind us f) ∙ ap first_kind h in absurd (omega arith)

-- beside nothing stands nothing
beside-nothing : {allowed : DTerm × DTerm → Type 0} (xs ys : List Piece) → xs ≡ [] → Walks (RowsFollow allowed) xs ys → ys ≡ []
beside-nothing xs ys h ended = refl
beside-nothing xs ys h (same (Head n) w) = let k : AreOne 0 4 = ap first_kind h in absurd (omega arith)
beside-nothing xs ys h (same (Name n) w) = let k : AreOne 1 4 = ap first_kind h in absurd (omega arith)
beside-nothing xs ys h (same Scope w) = let k : AreOne 2 4 = ap first_kind h in absurd (omega arith)
beside-nothing xs ys h (same Leave w) = let k : AreOne 3 4 = ap first_kind h in absurd (omega arith)
beside-nothing xs ys h (same Close w) = let k : AreOne 3 4 = ap first_kind h in absurd (omega arith)
beside-nothing xs ys h (part {xs = us} f w) = let k : AreOne 0 4 = sym (part-kind us f) ∙ ap first_kind h in absurd (omega arith)

-- a line by congruence
pub congruent-follows : {allowed : DTerm × DTerm → Type 0} (d : DTerm) (xs ys : List Piece) → IsPlain d → Head d.op ∷ xs ≡ row d →
    Walks (RowsFollow allowed) xs ys → RowsFollow allowed (Head d.op ∷ xs) (Head d.op ∷ ys)
congruent-follows {allowed} d xs ys p h w =
    let t : xs ≡ row_args closing d.args ++ [] = ap rest_of h ∙ sym (append-nil (row_args closing d.args)) in
    let f : Walked allowed closing d.args ys [] = walked closing d.args xs ys [] p.1 t w in
    let n : f.behind ≡ [] = beside-nothing [] f.behind refl f.walk in
    record {
      left = d;
      right = node d.op [] f.args;
      left_row = h;
      right_row = ap (λ ps. Head d.op ∷ ps) (f.is ∙ (ap (λ ps. row_args closing f.args ++ ps) n ∙ append-nil (row_args closing f.args)));
      left_plain = p;
      right_plain = (refl, f.plain);
      follows = node-follows d.op d.payloads p.0 f.follow;
    }

-- The text of a node stands around that of a child.
use Rattle.std.proofs.Common.{◌≡◌, ◌<◌, ◌+◌, ◌++◌, ℕ, zero, suc, List, [], ◌∷◌, length, map, set, codes, refl, sym, ap, subst, ◌∙◌, arith, append_assoc, append-nil}
use Rattle.std.specs.Prelude.{Some}
use Rattle.std.proofs.lemmas.List.{length-map, map-set, set-set}
use Rattle.std.proofs.lemmas.List.Elements.{All-pop}
use Rattle.slotted_theory.specs.Term.{Term}
use Rattle.slotted_languages.specs.Filled.{term_of}
use Rattle.slotted_slots.specs.Syntax.{Element, text, name, applied}
use Rattle.slotted_slots.specs.Table.{Table}
use Rattle.slotted_patterns.specs.Shown.{bracketed, node_text, part_text, part_texts, spaced, total_width}
use Rattle.slotted_terms.specs.Shown.{IsWrittenAs, term_text}
use Rattle.slotted_terms.proofs.TermTexts.{node_text-term}
use Rattle.slotted_changes.specs.Changes.{AreLevels, IsLevel, Level, Surround, below, over}

-- of the parts of a node that is written with the texts us, one is that of the child k
record Parts (t : Table) (es : List Element) (us : List (List ℕ)) (k : ℕ) : Type 0 where
  before : List (List ℕ)
  after : List (List ℕ)
  is : (v : List ℕ) → part_texts t es (set us k v) ≡ before ++ v ∷ after

parts : (t : Table) (es : List Element) (us : List (List ℕ)) (k : ℕ) → k < total_width es → k < length us → Parts t es us k
parts t [] us k a b = absurd (omega (arith, a))
parts t (text bs ∷ es) us k a b =
    let p = parts t es us k (omega (arith, a)) b in
    record { before = bs ∷ p.before; after = p.after; is = λ v. ap (λ ps. bs ∷ ps) (p.is v) }
parts t (name x ∷ es) us k a b =
    let p = parts t es us k (omega (arith, a)) b in
    let s = part_text t (name x) [] in
    record { before = s ∷ p.before; after = p.after; is = λ v. ap (λ ps. s ∷ ps) (p.is v) }
parts t (applied i m ∷ es) [] k a b = absurd (omega (arith, b))
parts t (applied i m ∷ es) (u ∷ us) zero a b = record { before = []; after = part_texts t es us; is = λ v. refl }
parts t (applied i m ∷ es) (u ∷ us) (suc k) a b =
    let p = parts t es us k (omega (arith, a)) (omega (arith, b)) in
    record { before = u ∷ p.before; after = p.after; is = λ v. ap (λ ps. u ∷ ps) (p.is v) }

-- a text of which a part stands between two others
record Between (f : List ℕ → List ℕ) : Type 0 where
  before : List ℕ
  after : List ℕ
  is : (v : List ℕ) → f v ≡ before ++ (v ++ after)

spaced-between : (sep : List ℕ) (ps ss : List (List ℕ)) → Between (λ v. spaced sep (ps ++ v ∷ ss))
spaced-between sep [] ss = record { before = sep; after = spaced (codes " ") ss; is = λ v. refl }
spaced-between sep (p ∷ ps) ss =
    let b = spaced-between (codes " ") ps ss in
    record {
      before = sep ++ (p ++ b.before);
      after = b.after;
      is = λ v. ap (λ r. sep ++ (p ++ r)) (b.is v) ∙ (ap (λ r. sep ++ r) (sym (append_assoc p b.before (v ++ b.after))) ∙ sym (append_assoc sep (p ++ b.before) (v ++ b.after)));
    }

-- in round brackets
enclosed : (ps ss : List (List ℕ)) → Between (λ v. codes "(" ++ (spaced [] (ps ++ v ∷ ss) ++ codes ")"))
enclosed ps ss =
    let b = spaced-between [] ps ss in
    record {
      before = codes "(" ++ b.before;
      after = b.after ++ codes ")";
      is = λ v. ap (λ r. codes "(" ++ (r ++ codes ")")) (b.is v)
          ∙ ap (λ r. codes "(" ++ r) (append_assoc b.before (v ++ b.after) (codes ")") ∙ ap (λ r. b.before ++ r) (append_assoc v b.after (codes ")")));
    }

bracketed-between : (ps ss : List (List ℕ)) → Between (λ v. bracketed (ps ++ v ∷ ss))
bracketed-between [] [] = record { before = []; after = []; is = λ v. sym (append-nil v) }
bracketed-between [] (s ∷ ss) = let b = enclosed [] (s ∷ ss) in record { before = b.before; after = b.after; is = b.is }
bracketed-between (p ∷ []) ss = let b = enclosed (p ∷ []) ss in record { before = b.before; after = b.after; is = b.is }
bracketed-between (p ∷ q ∷ ps) ss = let b = enclosed (p ∷ q ∷ ps) ss in record { before = b.before; after = b.after; is = b.is }

node-between : (t : Table) (es : List Element) (us : List (List ℕ)) (k : ℕ) → k < total_width es → k < length us → Between (λ v. node_text t es (set us k v))
node-between t es us k a b =
    let p = parts t es us k a b in
    let q = bracketed-between p.before p.after in
    record { before = q.before; after = q.after; is = λ v. ap bracketed (p.is v) ∙ q.is v }

-- a level of a term, whose node is written as es, with two texts in turn in place of that of the child
module _ (w : Term → List Element) (t : Table) (l : Level) (es : List Element) (written : (us : List Term) → IsWrittenAs l.node es (w (term_of l.node us))) (us : List (List ℕ)) (us_are : us ≡ map (term_text w t) l.row) where
  level-text : (u : Term) → term_text w t (over l u) ≡ node_text t es (set us l.at (term_text w t u))
  level-text u =
      let texts : map (term_text w t) (set l.row l.at u) ≡ set us l.at (term_text w t u) = map-set (term_text w t) l.row l.at u ∙ ap (λ vs. set vs l.at (term_text w t u)) (sym us_are) in
      sym (node_text-term w t l.node es (set l.row l.at u) (written (set l.row l.at u))) ∙ ap (node_text t es) texts

  surround-by : Between (λ v. node_text t es (set us l.at v)) → (first second outer_first outer_second : List ℕ) →
      outer_first ≡ node_text t es (set us l.at first) → outer_second ≡ node_text t es (set (set us l.at first) l.at second) → Surround w t (l ∷ []) first second outer_first outer_second
  surround-by b first second outer_first outer_second one two = record {
    before = b.before;
    after = b.after;
    around = λ u. level-text u ∙ b.is (term_text w t u);
    first_is = one ∙ b.is first;
    second_is = two ∙ (ap (node_text t es) (set-set us l.at first second) ∙ b.is second);
  }

  pub surround : IsLevel l → (first second outer_first outer_second : List ℕ) →
      outer_first ≡ node_text t es (set us l.at first) → outer_second ≡ node_text t es (set (set us l.at first) l.at second) → Surround w t (l ∷ []) first second outer_first outer_second
  surround fits = surround-by (node-between t es us l.at (omega (arith, (written l.row).count, fits.count, fits.within)) (omega (arith, ap length us_are, length-map l.row (term_text w t), fits.within)))

-- nothing stands around a whole term
surround-none : (w : Term → List Element) (t : Table) (first second outer_first outer_second : List ℕ) → outer_first ≡ first → outer_second ≡ second → Surround w t [] first second outer_first outer_second
surround-none w t first second outer_first outer_second one two = record {
  before = [];
  after = [];
  around = λ u. sym (append-nil (term_text w t u));
  first_is = one ∙ sym (append-nil first);
  second_is = two ∙ sym (append-nil second);
}

regroup : (a b v c d : List ℕ) → a ++ ((b ++ (v ++ c)) ++ d) ≡ (a ++ b) ++ (v ++ (c ++ d))
regroup a b v c d = simp append_assoc

-- one level more stands around those within
surround-more : (w : Term → List Element) (t : Table) (l : Level) (ls : List Level) (first second mid_first mid_second outer_first outer_second : List ℕ) →
    Surround w t ls first second mid_first mid_second → Surround w t (l ∷ []) mid_first mid_second outer_first outer_second → Surround w t (l ∷ ls) first second outer_first outer_second
surround-more w t l ls first second mid_first mid_second outer_first outer_second inner outer = record {
  before = outer.before ++ inner.before;
  after = inner.after ++ outer.after;
  around = λ u.
      outer.around (below ls u)
      ∙ (ap (λ bs. outer.before ++ (bs ++ outer.after)) (inner.around u) ∙ regroup outer.before inner.before (term_text w t u) inner.after outer.after);
  first_is = outer.first_is ∙ (ap (λ bs. outer.before ++ (bs ++ outer.after)) inner.first_is ∙ regroup outer.before inner.before first inner.after outer.after);
  second_is = outer.second_is ∙ (ap (λ bs. outer.before ++ (bs ++ outer.after)) inner.second_is ∙ regroup outer.before inner.before second inner.after outer.after);
}

-- what is done of the levels of a place: the texts stand around it as far as these go
pub record AreDone (w : Term → List Element) (t : Table) (all rest : List Level) (first second outer_first outer_second : List ℕ) : Type 0 where
  pub done : List Level
  pub joined : all ≡ rest ++ done
  pub are_levels : AreLevels rest
  pub texts : Surround w t done first second outer_first outer_second

pub done-none : (w : Term → List Element) (t : Table) (all : List Level) (first second outer_first outer_second : List ℕ) → AreLevels all → outer_first ≡ first → outer_second ≡ second → AreDone w t all all first second outer_first outer_second
done-none w t all first second outer_first outer_second h one two = record {
  done = [];
  joined = sym (append-nil all);
  are_levels = h;
  texts = surround-none w t first second outer_first outer_second one two;
}

-- the last of those that are left
pub last-level : (all rest : List Level) (l : Level) → all ≡ rest ++ l ∷ [] → AreLevels all → AreLevels rest × IsLevel l
last-level all rest l last h = All-pop IsLevel all rest (Some l) last h

pub done-more : (w : Term → List Element) (t : Table) (all left rest : List Level) (l : Level) (first second mid_first mid_second outer_first outer_second : List ℕ) → left ≡ rest ++ l ∷ [] →
    AreDone w t all left first second mid_first mid_second → Surround w t (l ∷ []) mid_first mid_second outer_first outer_second → AreDone w t all rest first second outer_first outer_second
done-more w t all left rest l first second mid_first mid_second outer_first outer_second last a s = record {
  done = l ∷ a.done;
  joined = a.joined ∙ (ap (λ ls. ls ++ a.done) last ∙ append_assoc rest (l ∷ []) a.done);
  are_levels = (last-level left rest l last a.are_levels).0;
  texts = surround-more w t l a.done first second mid_first mid_second outer_first outer_second a.texts s;
}

pub done-all : (w : Term → List Element) (t : Table) (all : List Level) (first second outer_first outer_second : List ℕ) → AreDone w t all [] first second outer_first outer_second → Surround w t all first second outer_first outer_second
done-all w t all first second outer_first outer_second a = subst (λ ls. Surround w t ls first second outer_first outer_second) (sym a.joined) a.texts

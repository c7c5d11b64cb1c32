-- Rules one after another: one search or apply more.
use Rattle.std.proofs.Common.{◌≡◌, ◌≢◌, ◌∙◌, ◌<◌, ℕ, List, [], ◌∷◌, ◌++◌, Bool, true, false, Result, Ok, Err, length, take, drop, suc, ◌+◌, ◌≤◌, append_assoc, arith, take_all, refl, sym, ap, subst, inl, inr}
use Rattle.std.specs.Prelude.{◌↔◌, ◌⊎◌, Contains, IsErrAnd, IsErrOf, IsTrue, get_or}
use Rattle.std.proofs.lemmas.Bool.{false≢true}
use Rattle.std.proofs.lemmas.List.{append-nil, drop_all, take-append-drop, take_more}
use Rattle.std.proofs.Math.Seq.{drop-cons}
use Rattle.std.proofs.lemmas.List.Elements.{Contains-get_or}
use Rattle.slotted_slots.specs.declared.error.Error.{Error}
use Rattle.slotted_slots.specs.declared.error.Error.TheVariants.{Failed}
use Rattle.slotted_slots.specs.Error.{IsShortage}
use Rattle.slotted_model_rules.specs.Runners.{AppliesAll, SearchesAll, none_applied, none_searched, one_applied, one_searched}
use Rattle.slotted_languages.proofs.HandedOn.{handed_on}
use Rattle.slotted_operations.specs.Graph.{Graph}
use Rattle.slotted_graph.specs.Extension.{ExtendsTo}
use Rattle.slotted_graph.proofs.Extending.{extends-then}
use Rattle.slotted_rules.specs.Applying.{AreRefusedBy, CanApplyAll, StopsApplying, StopsSearching}
use Rattle.slotted_rules.specs.Loops.{HasApplied}

-- an answer without a refusal leaves a graph that has not failed
pub ok-well : {A : Type 0} (P : Error → Type 0) (b : Bool) (r : Result A Error) (x : A) → r ≡ Ok x → (IsTrue b → IsErrAnd r P) → b ≡ false
ok-well {A} P true r x is fails = absurd (subst (λ (s : Result A Error). IsErrAnd s P) is (fails refl))
ok-well P false r x is fails = refl

-- where the graph had not failed, a refusal is none of a failed one
pub not-failed : {A : Type 0} (r : Result A Error) (e : Error) → r ≡ Err e → (b : Bool) → b ≡ false → IsErrOf r Failed ↔ IsTrue b → e ≢ Failed
not-failed r e is b well failed same = absurd (false≢true (sym well ∙ failed.0 (is ∙ ap Err same)))

-- and a refusal after which it has failed is a shortage
pub shortage_of : {A : Type 0} (r : Result A Error) (e : Error) → r ≡ Err e → e ≢ Failed → IsErrAnd r (λ x. (x ≡ Failed) ⊎ IsShortage x) → IsShortage e
shortage_of {A} r e is other fails = elim (subst (λ (s : Result A Error). IsErrAnd s (λ x. (x ≡ Failed) ⊎ IsShortage x)) is fails) [
  | inl failed ↦ absurd (other failed)
  | inr short ↦ short
]

pub handed_and : {T : Type 0} (r : Result T Error) (e : Error) → IsErrAnd r (λ y. y ≡ e) → (P : Error → Type 0) → P e → IsErrAnd r P
handed_and {T} r e handed P p = subst (λ (s : Result T Error). IsErrAnd s P) (sym (handed_on r e handed)) p

-- a refusal of one rule that is no shortage is one of the rules'
pub refused-one : {R : Type 0} (refuses : R → Error → Type 0) (rules : List R) (i : ℕ) (rule : R) → i < length rules → rule ≡ get_or rules i rule → (e : Error) →
    e ≢ Failed → (e ≡ Failed) ⊎ IsShortage e ⊎ refuses rule e → IsShortage e ⊎ AreRefusedBy refuses rules e
refused-one refuses rules i rule l is e other (inl failed) = absurd (other failed)
refused-one refuses rules i rule l is e other (inr (inl short)) = inl short
refused-one refuses rules i rule l is e other (inr (inr r)) = inr (rule, subst (Contains rules) (sym is) (Contains-get_or rules i rule l), r)

module _ {R F : Type 0} where
  pub searches-more : (searches : R → Graph → F → Graph → Type 0) {rules : List R} {g f h : Graph} {found : List F} → SearchesAll searches rules g found f →
      (rule : R) (x : F) → searches rule f x h → SearchesAll searches (rules ++ rule ∷ []) g (found ++ x ∷ []) h
  searches-more searches none_searched rule x s = one_searched s none_searched
  searches-more searches (one_searched first more) rule x s = one_searched first (searches-more searches more rule x s)

  pub applies-more : (applies : R → F → Graph → Graph → Type 0) {rules : List R} {g f h : Graph} {found : List F} → AppliesAll applies rules found g f →
      (rule : R) (x : F) → applies rule x f h → AppliesAll applies (rules ++ rule ∷ []) (found ++ x ∷ []) g h
  applies-more applies none_applied rule x s = one_applied s none_applied
  applies-more applies (one_applied first more) rule x s = one_applied first (applies-more applies more rule x s)

  module _ (can : R → F → Graph → Type 0) (stays : (r : R) (x : F) (g h : Graph) → ExtendsTo g h → can r x g → can r x h) where
    pub can-stays : (rules : List R) (found : List F) (g h : Graph) → ExtendsTo g h → CanApplyAll can rules found g → CanApplyAll can rules found h
    can-stays [] [] g h e c = tt
    can-stays [] (x ∷ found) g h e c = c
    can-stays (r ∷ rules) [] g h e c = c
    can-stays (r ∷ rules) (x ∷ found) g h e c = (stays r x g h e c.0, can-stays rules found g h e c.1)

    can-one : (rules : List R) (found : List F) (h : Graph) → CanApplyAll can rules found h → (rule : R) (x : F) → can rule x h → CanApplyAll can (rules ++ rule ∷ []) (found ++ x ∷ []) h
    can-one [] [] h c rule x d = (d, tt)
    can-one [] (y ∷ found) h c rule x d = absurd c
    can-one (r ∷ rules) [] h c rule x d = absurd c
    can-one (r ∷ rules) (y ∷ found) h c rule x d = (c.0, can-one rules found h c.1 rule x d)

    pub can-more : (rules : List R) (found : List F) (g h : Graph) → ExtendsTo g h → CanApplyAll can rules found g → (rule : R) (x : F) → can rule x h →
        CanApplyAll can (rules ++ rule ∷ []) (found ++ x ∷ []) h
    can-more rules found g h e c rule x d = can-one rules found h (can-stays rules found g h e c) rule x d

-- where some rules were applied, the next one can be
module _ {R F : Type 0} (applies : R → F → Graph → Graph → Type 0) (can : R → F → Graph → Type 0) (rules : List R) (i : ℕ) (rule : R) (l : i < length rules) (is : rule ≡ get_or rules i rule) (founds left new : List F) (x : F)
    (first : left ≡ x ∷ new) (g f : Graph) (so_far : HasApplied applies can (take i rules) (drop i rules) founds left g f) where
  head : drop i rules ≡ rule ∷ drop (i + 1) rules
  head =
      let next : suc i ≡ i + 1 = omega arith in
      drop-cons rules i rule l ∙ (ap (λ r. r ∷ drop (suc i) rules) (sym is) ∙ ap (λ n. rule ∷ drop n rules) next)

  both : CanApplyAll can (rule ∷ drop (i + 1) rules) (x ∷ new) f
  both = subst (λ rs. CanApplyAll can rs (x ∷ new) f) head (subst (λ xs. CanApplyAll can (drop i rules) xs f) first so_far.can_apply)

  pub can-next : can rule x f
  can-next = both.0

  pub applied-more : ((r : R) (y : F) (a b : Graph) → ExtendsTo a b → can r y a → can r y b) → (h : Graph) → applies rule x f h → ExtendsTo f h → h.failed ≡ false →
      HasApplied applies can (take (i + 1) rules) (drop (i + 1) rules) founds new g h
  applied-more stays h applied more well = record {
    well = well;
    extends = extends-then g f h so_far.extends more;
    done = so_far.done ++ x ∷ [];
    whole = so_far.whole ∙ (ap (λ xs. so_far.done ++ xs) first ∙ sym (append_assoc so_far.done (x ∷ []) new));
    applied = subst (λ rs. AppliesAll applies rs (so_far.done ++ x ∷ []) g h) (sym (take_more rules i rule l ∙ ap (λ r. take i rules ++ r ∷ []) (sym is))) (applies-more applies so_far.applied rule x applied);
    can_apply = can-stays can stays (drop (i + 1) rules) new f h more both.1;
  }

-- and where all were, all that was found was applied
pub applied-whole : {R F : Type 0} (applies : R → F → Graph → Graph → Type 0) (can : R → F → Graph → Type 0) (rules : List R) (i : ℕ) → length rules ≤ i → (founds left : List F) (g h : Graph) →
    HasApplied applies can (take i rules) (drop i rules) founds left g h → AppliesAll applies rules founds g h
applied-whole {R} {F} applies can rules i l founds left g h so_far =
    let none : left ≡ [] = empty left (subst (λ rs. CanApplyAll can rs left h) (drop_all i rules l) so_far.can_apply) in
    let whole : founds ≡ so_far.done = so_far.whole ∙ (ap (λ xs. so_far.done ++ xs) none ∙ append-nil so_far.done) in
    subst (λ rs. AppliesAll applies rs founds g h) (take_all i rules l) (subst (λ xs. AppliesAll applies (take i rules) xs g h) (sym whole) so_far.applied)
  where
    empty : (xs : List F) → CanApplyAll can [] xs h → xs ≡ []
    empty [] c = refl
    empty (x ∷ xs) c = absurd c

-- the rules before one, that one, and those after it
pub parted : {R : Type 0} (rules : List R) (i : ℕ) (rule : R) → i < length rules → rule ≡ get_or rules i rule → rules ≡ take i rules ++ rule ∷ drop (i + 1) rules
parted rules i rule l is =
    let next : suc i ≡ i + 1 = omega arith in
    sym (take-append-drop i rules)
    ∙ ap (λ rs. take i rules ++ rs) (drop-cons rules i rule l ∙ (ap (λ r. r ∷ drop (suc i) rules) (sym is) ∙ ap (λ n. rule ∷ drop n rules) next))

-- a search that is refused comes after those before it
pub searching-stops : {R F : Type 0} (searches : R → Graph → F → Graph → Type 0) (gives_up : R → Graph → Graph → Error → Type 0) (rules : List R) (i : ℕ) (rule : R) → i < length rules → rule ≡ get_or rules i rule →
    (founds : List F) (g f h : Graph) → SearchesAll searches (take i rules) g founds f → (e : Error) → e ≢ Failed → (e ≡ Failed) ⊎ IsShortage e ⊎ gives_up rule f h e → IsShortage e ⊎ StopsSearching searches gives_up rules g h e
searching-stops searches gives_up rules i rule l is founds g f h searched e other (inl failed) = absurd (other failed)
searching-stops searches gives_up rules i rule l is founds g f h searched e other (inr (inl short)) = inl short
searching-stops searches gives_up rules i rule l is founds g f h searched e other (inr (inr refused)) = inr (record {
  before = take i rules;
  rule = rule;
  after = drop (i + 1) rules;
  whole = parted rules i rule l is;
  founds = founds;
  moment = f;
  searched = searched;
  refused = refused;
})

-- and so does an apply
pub applying-stops : {R F : Type 0} (applies : R → F → Graph → Graph → Type 0) (breaks_off : R → F → Graph → Graph → Error → Type 0) (rules : List R) (i : ℕ) (rule : R) → i < length rules → rule ≡ get_or rules i rule →
    (founds done left new : List F) (x : F) → founds ≡ done ++ left → left ≡ x ∷ new → (g f h : Graph) → AppliesAll applies (take i rules) done g f → (e : Error) → (IsTrue h.failed → IsShortage e) →
    IsTrue h.failed ⊎ breaks_off rule x f h e → IsShortage e ⊎ StopsApplying applies breaks_off rules founds g h e
applying-stops applies breaks_off rules i rule l is founds done left new x whole first g f h applied e short (inl failed) = inl (short failed)
applying-stops applies breaks_off rules i rule l is founds done left new x whole first g f h applied e short (inr refused) = inr (record {
  before = take i rules;
  rule = rule;
  after = drop (i + 1) rules;
  whole = parted rules i rule l is;
  done = done;
  found = x;
  left = new;
  all_found = whole ∙ ap (λ xs. done ++ xs) first;
  moment = f;
  applied = applied;
  refused = refused;
})

-- Answers for patterns go along what is built later, and those for the children of a node make one for the node.
use Rattle.std.proofs.Common.{◌≡◌, ◌∙◌, ap, refl, sym, subst, inl, inr, ℕ, zero, suc, List, [], ◌∷◌, ◌++◌, length, take, drop, arith, slice_index, length-append, length-take, length-drop}
use Rattle.std.specs.Prelude.{IsTrue, Contains, Bool}
use Rattle.std.proofs.lemmas.List.{take_at, drop_at}
use Rattle.slotted_lists.proofs.Each.{Each, Each-take, Each-drop}
use Rattle.slotted_lists.proofs.Maps.{zip-keys_values}
use Rattle.slotted_slots.specs.Table.{Table, is_known, AllKnown}
use Rattle.slotted_slots.specs.Maps.{keys, values}
use Rattle.slotted_theory.specs.Nameless.{DTerm, scope, extend, nameless_args}
use Rattle.slotted_theory.proofs.Values.{child_before, node}
use Rattle.slotted_nodes.specs.Form.{Tree, leaf, own, child, bind, scopes, children}
use Rattle.slotted_languages.specs.NodeTerm.{node_args, own_names}
use Rattle.slotted_languages.proofs.NodeTerms.{own_fits, child_rest_fits, bind_inner_fits, bind_rest_fits}
use Rattle.slotted_model.specs.Applied.{Applied, as_term, renamed_id}
use Rattle.slotted_model.specs.Classes.{term_of}
use Rattle.slotted_model.specs.Growth.{Extends}
use Rattle.slotted_classes.proofs.ChildIds.{atom-is}
use Rattle.slotted_lookup.specs.Filling.{tree_over, names_over}
use Rattle.slotted_lookup.proofs.NodesOver.{names_fit, over_fits}
use Rattle.slotted_graph.specs.Graph.{Graph}
use Rattle.slotted_model_rules.specs.Conditions.{Values}
use Rattle.slotted_model_rules.specs.Instances.{IsInstance, IsAnswer, HasAnswers}
use Rattle.slotted_model_rules.specs.PatternClaims.{MovesWithNames}
use Rattle.slotted_model_rules.specs.Patterns.{Pattern}
use Rattle.slotted_model_rules.specs.Rules.{valued}
use Rattle.slotted_model_rules.proofs.Patterns.Instantiating.{instance-stays}
use Rattle.slotted_model_rules.proofs.Substitutions.Representing.{listed-moves, represented-moves, listed-more, answer-represented}
use Rattle.slotted_patterns.specs.Tree.{PatternTree}
use Rattle.slotted_rule_patterns.specs.PatternCode.{filled_pattern}
use Rattle.slotted_rules.specs.Methods.{Method, unknown, canonical, extracted, represented}
use Rattle.slotted_rules.specs.Instances.{Instantiates}
use Rattle.slotted_rules.specs.Stacked.{Makes}
use Rattle.slotted_rules.proofs.Growing.{grows-then}
use Rattle.slotted_rules.proofs.NodesOver.{first-of}
use Rattle.slotted_rules.proofs.Putting.{representatives-longer}

-- what represents a term

pub method-moves : (m : Method) (X : List (DTerm × DTerm)) → MovesWithNames (represented m X)
method-moves unknown X = represented-moves []
method-moves canonical X = represented-moves []
method-moves extracted X = listed-moves X

pub method-more : (m : Method) (X Y : List (DTerm × DTerm)) → ((p : DTerm × DTerm) → Contains X p → Contains Y p) → (u r : DTerm) → IsTrue (represented m X u r) → IsTrue (represented m Y u r)
method-more unknown X Y more u r e = e
method-more canonical X Y more u r e = e
method-more extracted X Y more u r e = listed-more X Y more u r e

pub answer-more : (m : Method) (X Y : List (DTerm × DTerm)) → ((p : DTerm × DTerm) → Contains X p → Contains Y p) → (nodes : List DTerm) (σ : List ℕ → Applied) (given : List ℕ) (p : Pattern) (a : Applied) → IsAnswer (represented m X) nodes given σ p a → IsAnswer (represented m Y) nodes given σ p a
answer-more m X Y more nodes σ given p a k = answer-represented (represented m X) (represented m Y) (method-more m X Y more) nodes σ given p a k

-- new classes leave an answer one
pub answer-stays : (R : DTerm → DTerm → Bool) (older newer : List DTerm) → Extends older newer → (σ : List ℕ → Applied) (given : List ℕ) (p : Pattern) (a : Applied) → IsAnswer R older given σ p a → IsAnswer R newer given σ p a
answer-stays R older newer ext σ given p a (inl v) = inl v
answer-stays R older newer ext σ given p a (inr i) = inr (
  ext.full a i.0,
  subst (IsInstance R newer given σ (λ y. y) p) (sym (ext.terms a i.0)) (instance-stays R older newer ext σ given (λ y. y) p (term_of older a) i.1),
)

pub makes-then : (m : Method) (f g h : Graph) → Makes m f g → Makes m g h → Makes m f h
makes-then m f g h b c = record { grows = grows-then f g h b.grows c.grows; asserts = λ k. c.asserts k ∙ b.asserts k }

pub makes-instance : (m : Method) (g h : Graph) (s : Values) (q : PatternTree) (a : Applied) → Instantiates m g h s q a → Makes m g h
makes-instance m g h s q a i = record { grows = i.grows; asserts = λ k. (i.instance k).asserts }

-- an answer in the middle of a stretch is one of the whole stretch
pub instance-wider : (m : Method) (f g h i : Graph) (s : Values) (q : PatternTree) (a : Applied) → Makes m f g → Makes m h i → Instantiates m g h s q a → Instantiates m f i s q a
instance-wider m f g h i s q a before after n = record {
  grows = grows-then f g i before.grows (grows-then g h i n.grows after.grows);
  valid = after.grows.extends.valid a n.valid;
  instance = λ k.
      let r = n.instance k in
      record {
        asserts = after.asserts k ∙ (r.asserts ∙ before.asserts k);
        pairs = r.pairs;
        are = representatives-longer f g h i r.pairs before.grows.extends after.grows.extends r.are;
        answers = λ p e given known.
            answer-stays (represented m r.pairs) h.image.canonical i.image.canonical after.grows.extends.canonical (valued s) given p a
            (r.answers p e given (λ j d l. before.grows.extends.more _ (known j d l)));
      };
}

-- answers for patterns in turn
abbrev pub EachPair : {A B : Type 0} → (A → B → Type 0) → List A → List B → Type 0
EachPair P [] bs = Unit {0}
EachPair P (a ∷ as') [] = Unit {0}
EachPair P (a ∷ as') (b ∷ bs) = P a b × EachPair P as' bs

pair-take : {A B : Type 0} (P : A → B → Type 0) (n : ℕ) (as' : List A) (bs : List B) → EachPair P as' bs → EachPair P (take n as') (take n bs)
pair-take P zero as' bs h = tt
pair-take P (suc n) [] bs h = tt
pair-take P (suc n) (a ∷ as') [] h = tt
pair-take P (suc n) (a ∷ as') (b ∷ bs) h = (h.0, pair-take P n as' bs h.1)

pair-drop : {A B : Type 0} (P : A → B → Type 0) (n : ℕ) (as' : List A) (bs : List B) → EachPair P as' bs → EachPair P (drop n as') (drop n bs)
pair-drop P zero as' bs h = h
pair-drop P (suc n) [] bs h = tt
pair-drop P (suc n) (a ∷ as') [] h = pair-none (drop n as')
  where
    pair-none : (cs : List _) → EachPair P cs []
    pair-none [] = tt
    pair-none (c ∷ cs) = tt
pair-drop P (suc n) (a ∷ as') (b ∷ bs) h = pair-drop P n as' bs h.1

module _ (R : DTerm → DTerm → Bool) (nodes : List DTerm) (σ : List ℕ → Applied) (t : Table) where
  -- an answer whatever names are given that the table knows
  abbrev pub IsAnswerOver : Pattern → Applied → Type 0
  IsAnswerOver p b = (given : List ℕ) → AllKnown t given → IsAnswer R nodes given σ p b

  Known : ℕ → Type 0
  Known s = IsTrue (is_known t s)

  known-more : (x : ℕ) (given : List ℕ) → IsTrue (is_known t x) → AllKnown t given → AllKnown t (x ∷ given)
  known-more x given h known zero d l = h
  known-more x given h known (suc k) d l = known k d (omega (arith, l))

  child-term : (ρ : ℕ → ℕ) (b : Applied) (ys : List ℕ) (r : Tree) →
      nameless_args ρ (node_args (child b.0 (keys b.1) r) (values b.1 ++ ys)) ≡ child_before (as_term (renamed_id ρ b)) (nameless_args ρ (node_args r ys))
  child-term ρ b ys r =
      let l : length (values b.1) ≡ length (keys b.1) = names_fit b.1 in
      (λ j. child_before (node 0 ((b.0 ∷ keys b.1) ∷ []) (nameless_args ρ (own_names (take_at (values b.1) ys (length (keys b.1)) l j)))) (nameless_args ρ (node_args r (drop_at (values b.1) ys (length (keys b.1)) l j))))
      ∙ ap (λ z. child_before z (nameless_args ρ (node_args r ys))) (atom-is ρ b.0 (keys b.1) (values b.1) l ∙ ap (λ (m : List (ℕ × ℕ)). as_term (renamed_id ρ (b.0, m))) (zip-keys_values b.1))

  pub over-answers : (ρ : ℕ → ℕ) (given : List ℕ) (u : Tree) (xs : List ℕ) (bs : List Applied) (ps : List Pattern) → length xs ≡ length (scopes u) → length bs ≡ length (children u) → length ps ≡ length (children u) →
      Each (λ s. IsTrue (is_known t s)) xs → AllKnown t given → EachPair IsAnswerOver ps bs → HasAnswers R nodes given σ ρ (filled_pattern u xs ps) (nameless_args ρ (node_args (tree_over u bs) (names_over u xs bs)))
  over-answers ρ given leaf xs bs ps n c d known kg e = refl
  over-answers ρ given (own r) xs bs ps n c d known kg e =
      (nameless_args ρ (node_args (tree_over r bs) (names_over r (drop 1 xs) bs)), refl, over-answers ρ given r (drop 1 xs) bs ps (own_fits r xs n) c d (Each-drop (λ s. IsTrue (is_known t s)) 1 xs known) kg e)
  over-answers ρ given (child i ks r) xs [] ps n c d known kg e = absurd (omega (arith, c))
  over-answers ρ given (child i ks r) xs (b ∷ bs) [] n c d known kg e = absurd (omega (arith, d))
  over-answers ρ given (child i ks r) xs (b ∷ bs) (p ∷ ps) n c d known kg e =
      let ys : List ℕ = names_over r (drop (length ks) xs) bs in (
        b,
        nameless_args ρ (node_args (tree_over r bs) ys),
        child-term ρ b ys (tree_over r bs),
        e.0 given kg,
        over-answers ρ given r (drop (length ks) xs) bs ps (child_rest_fits i ks r xs n) (omega (arith, c)) (omega (arith, d)) (Each-drop (λ s. IsTrue (is_known t s)) (length ks) xs known) kg e.1,
      )
  over-answers ρ given (bind u r) xs bs ps n c d known kg e =
      let P : ℕ → Type 0 = λ s. IsTrue (is_known t s) in
      let m = length (scopes u) in
      let q = length (children u) in
      let x = slice_index xs 0 in
      let inner = take m (drop 1 xs) in
      let rest = drop m (drop 1 xs) in
      let us = take q bs in
      let rs = drop q bs in
      let vs = names_over u inner us in
      let ws = names_over r rest rs in
      let l : length vs ≡ length (scopes (tree_over u us)) = over_fits u inner us (bind_inner_fits u r xs n) in
      let o = length-append (children u) (children r) in
      let later : Each P (drop 1 xs) = Each-drop P 1 xs known in
      let first : P x = first-of P xs (length (scopes u ++ scopes r)) n known in (
        nameless_args (extend x ρ) (node_args (tree_over u us) vs),
        nameless_args ρ (node_args (tree_over r rs) ws),
        λ j. scope (nameless_args (extend x ρ) (node_args (tree_over u us) (take_at vs ws (length (scopes (tree_over u us))) l j))) (nameless_args ρ (node_args (tree_over r rs) (drop_at vs ws (length (scopes (tree_over u us))) l j))),
        over-answers (extend x ρ) (x ∷ given) u inner us (take q ps) (bind_inner_fits u r xs n) (omega (arith, length-take q bs, o, c)) (omega (arith, length-take q ps, o, d)) (Each-take P m (drop 1 xs) later) (known-more x given first kg) (pair-take IsAnswerOver q ps bs e),
        over-answers ρ given r rest rs (drop q ps) (bind_rest_fits u r xs n) (omega (arith, length-drop q bs, o, c)) (omega (arith, length-drop q ps, o, d)) (Each-drop P m (drop 1 xs) later) kg (pair-drop IsAnswerOver q ps bs e),
      )

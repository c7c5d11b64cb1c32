-- Substitution over ids: what stands in a term is of an older class and has fewer names, and a node over replaced children is a replaced node.
use Rattle.std.proofs.Common.{◌≡◌, ◌≢◌, ◌⊎◌, ℕ, zero, suc, ◌+◌, ◌<◌, List, [], ◌∷◌, ◌++◌, length, get_or, sym, ◌∙◌, ap, refl, subst, inl, inr, arith, length-append}
use Rattle.std.specs.Prelude.{map, Contains}
use Rattle.std.proofs.lemmas.List.{get_or_append_left, get_or-append-add}
use Rattle.slotted_lists.proofs.Contained.{contains_head, contains_tail}
use Rattle.slotted_lists.proofs.Members.{In, In-left, In-right, In-Contains, Contains-In}
use Rattle.slotted_theory.specs.Nameless.{DArgs, DTerm, stop, place, sub, scope, extend, moved}
use Rattle.slotted_theory.specs.FiniteMaps.{filled}
use Rattle.slotted_theory.specs.Renaming.{IsInjective}
use Rattle.slotted_theory.specs.Shape.{free_names}
use Rattle.slotted_theory.proofs.Names.{extend-injective, extend-other}
use Rattle.slotted_theory.proofs.Values.{node, child_before, expand_args, expand}
use Rattle.slotted_model.specs.Applied.{Applied, values, renamed_id, as_term, applied_of, EachChild}
use Rattle.slotted_model.specs.Classes.{canonical_node, stands, terms, term_of, layer_of, IsFull, Canonical}
use Rattle.slotted_model.specs.Filling.{IsFilling, FillsArgs}
use Rattle.slotted_model.specs.Growth.{Extends}
use Rattle.slotted_model.proofs.Represented.Children.{expand-as_term, expand-child, names-term_by}
use Rattle.slotted_model.proofs.Represented.Fillings.{fills-itself, filling-iff}
use Rattle.slotted_model.proofs.Represented.Full.{full-ascending, full-keys, full-renamed, full-children, term_of-renamed, term_of-layer}
use Rattle.slotted_model.proofs.Data.Sets.{SameMembers}
use Rattle.slotted_model.proofs.Data.Theory.{moved-agrees, moved-moved, moved-id}
use Rattle.slotted_model.proofs.Represented.Unique.{term_of-same}
use Rattle.slotted_model_rules.specs.Matcher.{NodeArgs, no_more, a_name, an_id, a_binder, unnamed, bound_names}
use Rattle.slotted_model_rules.specs.Substitution.{seen_inside, substituted_args, substituted, StandsInArgs, StandsIn}
use Rattle.slotted_model_rules.specs.ReplacedIds.{IsReplaced, IsOlderOrLacks, HasReplacedChildren, HasReplacedIds, ids_of, HasOtherIds}
use Rattle.slotted_model_rules.proofs.Substitutions.Renamed.{applied-as_term}
use Rattle.slotted_model_rules.proofs.Substitutions.Substituting.{put-same, put-other, nothing-substituted, itself-substituted, kept-substituted, moved-substituted}

-- a part has no name that the whole lacks: with itself in its place nothing changes, and each of its names stays
pub part-names : (x b : DTerm) → StandsIn x b → (y : ℕ) → Contains (free_names x.args) y → Contains (free_names b.args) y
part-names x b h y c = subst (λ (d : DTerm). Contains (free_names d.args) y) (itself-substituted x b) (kept-substituted x x b h y c)

-- x becomes t
pub whole-replaced : (nodes : List DTerm) (x t : Applied) → IsFull nodes t → IsReplaced nodes x t x t
whole-replaced nodes x t full =
    let d : DTerm = term_of nodes x in
    let e : DTerm = term_of nodes t in
    (full, sym (put-same d e d (node d.op d.payloads (substituted_args d e d.args)) refl))

module _ (nodes : List DTerm) where
  -- what an argument list stands for whose children are replaced
  over-replaced : (x t : DTerm) (d m : DArgs) → HasReplacedChildren nodes x t d m → (given : List ℕ) (e : DArgs) → FillsArgs nodes given m e →
      expand_args (stands (terms nodes)) e ≡ substituted_args x t (expand_args (stands (terms nodes)) d)
  over-replaced x t stop m k given e f = ap (expand_args (stands (terms nodes))) (subst (λ z. FillsArgs nodes given z e) k f)
  over-replaced x t (place y rest) m k given e f =
      let q : (z : DArgs) × (e ≡ place y z) × FillsArgs nodes given k.0 z = subst (λ z. FillsArgs nodes given z e) k.1 f in
      ap (expand_args (stands (terms nodes))) q.1 ∙ ap (place y) (over-replaced x t rest k.0 k.2 given q.0 q.2)
  over-replaced x t (sub op payloads args rest) m k given e f =
      let a : Applied = k.1 in
      let q : (b : Applied) × (z : DArgs) × (e ≡ child_before (as_term b) z) × IsFilling nodes given (applied_of (as_term a).payloads (as_term a).args) b × FillsArgs nodes given k.2 z =
      subst (λ z. FillsArgs nodes given z e) k.4 f in
      let same : q.0 ≡ a = (filling-iff nodes given a q.0 k.5).0 (subst (λ c. IsFilling nodes given c q.0) (applied-as_term a) q.3) in
      let was : expand (stands (terms nodes)) (node op payloads args) ≡ term_of nodes k.0 = ap (expand (stands (terms nodes))) k.3 ∙ expand-as_term (terms nodes) k.0 in
      let child : expand (stands (terms nodes)) (as_term q.0) ≡ substituted x t (expand (stands (terms nodes)) (node op payloads args)) =
      expand-as_term (terms nodes) q.0 ∙ (ap (term_of nodes) same ∙ (k.6 ∙ ap (substituted x t) (sym was))) in
      ap (expand_args (stands (terms nodes))) q.2 ∙ (λ i. child_before (child i) (over-replaced x t rest k.2 k.7 given q.1 q.4 i))
  over-replaced x t (scope inner rest) m k given e f =
      let q : (i : DArgs) × (z : DArgs) × (e ≡ scope i z) × FillsArgs nodes (0 ∷ map suc given) k.0 i × FillsArgs nodes given k.1 z = subst (λ z. FillsArgs nodes given z e) k.2 f in
      ap (expand_args (stands (terms nodes))) q.2
      ∙ (λ i. scope (over-replaced (seen_inside x) (seen_inside t) inner k.0 k.3 (0 ∷ map suc given) q.0 q.3 i) (over-replaced x t rest k.1 k.4 given q.1 q.4 i))

  -- the term of a node over them
  node-replaced : (x t b : DTerm) → b ≢ x → (d : DTerm) → b ≡ layer_of nodes d → (m : DArgs) → HasReplacedChildren nodes x t d.args m →
      (given : List ℕ) (e : DArgs) → FillsArgs nodes given m e → layer_of nodes (node d.op d.payloads e) ≡ substituted x t b
  node-replaced x t b n d p m k given e f =
      let l : DTerm = layer_of nodes d in
      ap (node d.op d.payloads) (over-replaced x t d.args m k given e f)
      ∙ (sym (put-other x t l (node l.op l.payloads (substituted_args x t l.args)) (λ q. n (p ∙ q))) ∙ ap (substituted x t) (sym p))

  -- ids that are full are their only fillings
  ids-filled : (x t : Applied) (ρ : ℕ → ℕ) → IsInjective ρ → (n m : NodeArgs) → HasReplacedIds nodes x t n m → (given : List ℕ) → FillsArgs nodes given (unnamed ρ n) (unnamed ρ n)
  ids-filled x t ρ inj no_more m k given = refl
  ids-filled x t ρ inj (a_name y rest) m k given = (unnamed ρ rest, refl, ids-filled x t ρ inj rest k.0 k.2 given)
  ids-filled x t ρ inj (an_id c rest) m k given =
      let b : Applied = renamed_id ρ c in (
        b,
        unnamed ρ rest,
        refl,
        subst (λ a. IsFilling nodes given a b) (sym (applied-as_term b)) (fills-itself nodes given b (full-renamed nodes c k.3 ρ (λ y z i j. inj y z))),
        ids-filled x t ρ inj rest k.1 k.5 given,
      )
  ids-filled x t ρ inj (a_binder y inner rest) m k given = (
    unnamed (extend y ρ) inner,
    unnamed ρ rest,
    refl,
    ids-filled x t (extend y ρ) (extend-injective y ρ inj) inner k.0 k.5 (0 ∷ map suc given),
    ids-filled x t ρ inj rest k.1 k.6 given,
  )

module _ (nodes : List DTerm) (can : Canonical nodes) where
  id-names : (a : Applied) → IsFull nodes a → SameMembers (free_names (term_of nodes a).args) (values a.1)
  id-names a full = names-term_by (terms nodes) a (full-keys nodes can a full) (full-ascending nodes a full)

  -- what stands in arguments whose children are older than k is older than k, if what stands in such a child is no newer than the child
  older-args : (k : ℕ) → ((x c : Applied) → IsFull nodes x → (c.0 < k) × IsFull nodes c → StandsIn (term_of nodes x) (term_of nodes c) → (c ≡ x) ⊎ (x.0 < c.0)) →
      (x : Applied) → IsFull nodes x → (d : DArgs) → EachChild (λ c. (c.0 < k) × IsFull nodes c) d → StandsInArgs (term_of nodes x) (expand_args (stands (terms nodes)) d) → x.0 < k
  older-args k one x full stop c h = absurd h
  older-args k one x full (place y rest) c h = older-args k one x full rest c h
  older-args k one x full (sub op payloads args rest) c (inl h) =
      let d : DTerm = node op payloads args in
      elim (one x c.0.0 full c.0.2 (subst (StandsIn (term_of nodes x)) (expand-child (terms nodes) _ d c.0) h)) [
        | inl e ↦ subst (λ (a : Applied). a.0 < k) e c.0.2.0
        | inr l ↦ omega (arith, l, c.0.2.0)
      ]
  older-args k one x full (sub op payloads args rest) c (inr h) = older-args k one x full rest c.1 h
  older-args k one x full (scope inner rest) c (inl h) =
      older-args k one (renamed_id suc x) (full-renamed nodes x full suc (λ y z i j e. omega (arith, e))) inner c.0
      (subst (λ d. StandsInArgs d (expand_args (stands (terms nodes)) inner)) (sym (term_of-renamed nodes can x full suc)) h)
  older-args k one x full (scope inner rest) c (inr h) = older-args k one x full rest c.1 h

  older-below : (n : ℕ) (x b : Applied) → b.0 < n → IsFull nodes x → IsFull nodes b → StandsIn (term_of nodes x) (term_of nodes b) → (b ≡ x) ⊎ (x.0 < b.0)
  older-below zero x b l fx fb h = absurd (omega (arith, l))
  older-below (suc n) x b l fx fb (inl e) = inl ((term_of-same nodes can b x fb fx).0 e)
  older-below (suc n) x b l fx fb (inr h) =
      let d : DTerm = moved (filled b.1) (canonical_node nodes b.0) in
      inr
      (older-args b.0 (λ y c fy k. older-below n y c (omega (arith, l, k.0)) fy k.1) x fx d.args (full-children nodes can b fb)
      (subst (λ (e : DTerm). StandsInArgs (term_of nodes x) e.args) (term_of-layer nodes can b fb) h))

  -- what stands in the term of b is b, or older
  pub part-older : (x b : Applied) → IsFull nodes x → IsFull nodes b → StandsIn (term_of nodes x) (term_of nodes b) → (b ≡ x) ⊎ (x.0 < b.0)
  part-older x b = older-below (suc b.0) x b (omega arith)

  -- and has no name that b lacks
  pub part-values : (x b : Applied) → IsFull nodes x → IsFull nodes b → StandsIn (term_of nodes x) (term_of nodes b) → (y : ℕ) → Contains (values x.1) y → Contains (values b.1) y
  part-values x b fx fb h y c =
      let d : DTerm = term_of nodes x in
      let e : DTerm = term_of nodes b in
      let k : Contains (free_names d.args) y = Contains-In (free_names d.args) y ((id-names x fx y).1 (In-Contains (values x.1) y c)) in
      Contains-In (values b.1) y ((id-names b fb y).0 (In-Contains (free_names e.args) y (part-names d e h y k)))

  -- so x stands in nothing that is older or lacks a name of it
  pub stands-nowhere : (x b : Applied) → IsFull nodes x → IsFull nodes b → IsOlderOrLacks b x → ¬ StandsIn (term_of nodes x) (term_of nodes b)
  stands-nowhere x b fx fb (inl l) h = elim (part-older x b fx fb h) [
    | inl e ↦ let k : x.0 < x.0 = subst (λ (a : Applied). a.0 < x.0) e l in omega (arith, k)
    | inr k ↦ omega (arith, l, k)
  ]
  stands-nowhere x b fx fb (inr r) h = r.2 (part-values x b fx fb h r.0 r.1)

  pub older-stays : (x b : Applied) → IsFull nodes x → IsFull nodes b → IsOlderOrLacks b x → (t : Applied) → IsReplaced nodes x t b b
  older-stays x b fx fb h t = (fb, sym (nothing-substituted (term_of nodes x) (term_of nodes t) (term_of nodes b) (stands-nowhere x b fx fb h)))

  pub older-inside : (f : ℕ → ℕ) → IsInjective f → (x b : Applied) → IsFull nodes x → IsFull nodes b → IsOlderOrLacks b (renamed_id f x) → (t : DTerm) → substituted (moved f (term_of nodes x)) t (term_of nodes b) ≡ term_of nodes b
  older-inside f inj x b fx fb h t =
      let full : IsFull nodes (renamed_id f x) = full-renamed nodes x fx f (λ y z i j. inj y z) in
      ap (λ d. substituted d t (term_of nodes b)) (sym (term_of-renamed nodes can x fx f))
      ∙ nothing-substituted (term_of nodes (renamed_id f x)) t (term_of nodes b) (stands-nowhere (renamed_id f x) b full fb h)

  -- any other id than x has another term
  other-terms : (x b : Applied) → IsFull nodes x → IsFull nodes b → b ≢ x → term_of nodes b ≢ term_of nodes x
  other-terms x b fx fb n e = n ((term_of-same nodes can b x fb fx).0 e)

  pub other-searched : (x t b a : Applied) → IsFull nodes x → IsFull nodes b → b ≢ x → (d : DTerm) → term_of nodes b ≡ layer_of nodes d →
      (m : DArgs) → HasReplacedChildren nodes (term_of nodes x) (term_of nodes t) d.args m →
      (given : List ℕ) (e : DArgs) → FillsArgs nodes given m e → IsFull nodes a → term_of nodes a ≡ layer_of nodes (node d.op d.payloads e) → IsReplaced nodes x t b a
  other-searched x t b a fx fb n d p m k given e f full q =
      (full, q ∙ node-replaced nodes (term_of nodes x) (term_of nodes t) (term_of nodes b) (other-terms x b fx fb n) d p m k given e f)

  -- under a binder with another name a term is what it is from inside
  from-inside : (a : Applied) → IsFull nodes a → (y : ℕ) (ρ : ℕ → ℕ) → ¬ Contains (values a.1) y → moved (extend y ρ) (term_of nodes a) ≡ seen_inside (moved ρ (term_of nodes a))
  from-inside a full y ρ lacks =
      moved-agrees (extend y ρ) (λ z. suc (ρ z)) (term_of nodes a)
      (λ z h. extend-other y ρ z (λ e. lacks (Contains-In (values a.1) y (subst (λ w. In w (values a.1)) e ((id-names a full z).0 h)))))
      ∙ sym (moved-moved suc ρ (term_of nodes a))

  module _ (x t : Applied) (fx : IsFull nodes x) (ft : IsFull nodes t) where
    names-inside : (ρ : ℕ → ℕ) → IsInjective ρ → (n m : NodeArgs) → HasReplacedIds nodes x t n m →
        HasReplacedChildren nodes (moved ρ (term_of nodes x)) (moved ρ (term_of nodes t)) (unnamed ρ n) (unnamed ρ m)
    names-inside ρ inj no_more m k = ap (unnamed ρ) k
    names-inside ρ inj (a_name y rest) m k = (unnamed ρ k.0, ap (unnamed ρ) k.1, names-inside ρ inj rest k.0 k.2)
    names-inside ρ inj (an_id c rest) m k = (
      renamed_id ρ c,
      renamed_id ρ k.0,
      unnamed ρ k.1,
      refl,
      ap (unnamed ρ) k.2,
      full-renamed nodes k.0 k.4.0 ρ (λ y z i j. inj y z),
      term_of-renamed nodes can k.0 k.4.0 ρ
          ∙ (ap (moved ρ) k.4.1
          ∙ (moved-substituted ρ inj (term_of nodes x) (term_of nodes t) (term_of nodes c)
          ∙ ap (substituted (moved ρ (term_of nodes x)) (moved ρ (term_of nodes t))) (sym (term_of-renamed nodes can c k.3 ρ)))),
      names-inside ρ inj rest k.1 k.5,
    )
    names-inside ρ inj (a_binder y inner rest) m k =
        let r : HasReplacedChildren nodes (moved (extend y ρ) (term_of nodes x)) (moved (extend y ρ) (term_of nodes t)) (unnamed (extend y ρ) inner) (unnamed (extend y ρ) k.0) =
        names-inside (extend y ρ) (extend-injective y ρ inj) inner k.0 k.5 in (
          unnamed (extend y ρ) k.0,
          unnamed ρ k.1,
          ap (unnamed ρ) k.2,
          subst (λ d. HasReplacedChildren nodes (seen_inside (moved ρ (term_of nodes x))) d (unnamed (extend y ρ) inner) (unnamed (extend y ρ) k.0)) (from-inside t ft y ρ k.4)
              (subst (λ d. HasReplacedChildren nodes d (moved (extend y ρ) (term_of nodes t)) (unnamed (extend y ρ) inner) (unnamed (extend y ρ) k.0)) (from-inside x fx y ρ k.3) r),
          names-inside ρ inj rest k.1 k.6,
        )

    pub names-seen : (n m : NodeArgs) → HasReplacedIds nodes x t n m → HasReplacedChildren nodes (term_of nodes x) (term_of nodes t) (unnamed (λ y. y) n) (unnamed (λ y. y) m)
    names-seen n m k =
        subst (λ d. HasReplacedChildren nodes (term_of nodes x) d (unnamed (λ y. y) n) (unnamed (λ y. y) m)) (moved-id (term_of nodes t))
        (subst (λ d. HasReplacedChildren nodes d (moved (λ y. y) (term_of nodes t)) (unnamed (λ y. y) n) (unnamed (λ y. y) m)) (moved-id (term_of nodes x))
        (names-inside (λ y. y) (λ y z e. e) n m k))

    pub named-searched : (b a : Applied) → IsFull nodes b → b ≢ x → (op : ℕ) (payloads : List (List ℕ)) (n : NodeArgs) → term_of nodes b ≡ layer_of nodes (node op payloads (unnamed (λ y. y) n)) →
        (m : NodeArgs) → HasReplacedIds nodes x t n m → (given : List ℕ) (e : DArgs) → FillsArgs nodes given (unnamed (λ y. y) m) e → IsFull nodes a →
        term_of nodes a ≡ layer_of nodes (node op payloads e) → IsReplaced nodes x t b a
    named-searched b a fb other op payloads n p m k given e f full q =
        other-searched x t b a fx fb other (node op payloads (unnamed (λ y. y) n)) p (unnamed (λ y. y) m) (names-seen n m k) given e f full q

    pub unchanged-stays : (b : Applied) → IsFull nodes b → b ≢ x → (op : ℕ) (payloads : List (List ℕ)) (n : NodeArgs) → term_of nodes b ≡ layer_of nodes (node op payloads (unnamed (λ y. y) n)) →
        HasReplacedIds nodes x t n n → IsReplaced nodes x t b b
    unchanged-stays b fb other op payloads n p k =
        named-searched b b fb other op payloads n p n k [] (unnamed (λ y. y) n) (ids-filled nodes x t (λ y. y) (λ y z e. e) n n k []) fb p

module _ (older newer : List DTerm) (extends : Extends older newer) (x t : Applied) (fx : IsFull older x) (ft : IsFull older t) where
  pub replaced-stays : (b a : Applied) → IsFull older b → IsReplaced older x t b a → IsReplaced newer x t b a
  replaced-stays b a fb k =
      (extends.full a k.0, extends.terms a k.0 ∙ (k.1 ∙ sym (λ i. substituted (extends.terms x fx i) (extends.terms t ft i) (extends.terms b fb i))))

  pub replaced_ids-stay : (n m : NodeArgs) → HasReplacedIds older x t n m → HasReplacedIds newer x t n m
  replaced_ids-stay no_more m k = k
  replaced_ids-stay (a_name y rest) m k = (k.0, k.1, replaced_ids-stay rest k.0 k.2)
  replaced_ids-stay (an_id c rest) m k = (k.0, k.1, k.2, extends.full c k.3, replaced-stays c k.0 k.3 k.4, replaced_ids-stay rest k.1 k.5)
  replaced_ids-stay (a_binder y inner rest) m k = (k.0, k.1, k.2, k.3, k.4, replaced_ids-stay inner k.0 k.5, replaced_ids-stay rest k.1 k.6)

-- children that are to be replaced are full
ids-full : (nodes : List DTerm) (x t : Applied) (ρ : ℕ → ℕ) → IsInjective ρ → (n m : NodeArgs) → HasReplacedIds nodes x t n m → EachChild (IsFull nodes) (unnamed ρ n)
ids-full nodes x t ρ inj no_more m k = tt
ids-full nodes x t ρ inj (a_name y rest) m k = ids-full nodes x t ρ inj rest k.0 k.2
ids-full nodes x t ρ inj (an_id c rest) m k =
    ((renamed_id ρ c, refl, full-renamed nodes c k.3 ρ (λ y z i j. inj y z)), ids-full nodes x t ρ inj rest k.1 k.5)
ids-full nodes x t ρ inj (a_binder y inner rest) m k =
    (ids-full nodes x t (extend y ρ) (extend-injective y ρ inj) inner k.0 k.5, ids-full nodes x t ρ inj rest k.1 k.6)

module _ (older newer : List DTerm) (extends : Extends older newer) where
  pub filled-stays : (given : List ℕ) (d e : DArgs) → FillsArgs older given d e → FillsArgs newer given d e
  filled-stays given stop e f = f
  filled-stays given (place y rest) e f = (f.0, f.1, filled-stays given rest f.0 f.2)
  filled-stays given (sub op payloads args rest) e f = (
    f.0,
    f.1,
    f.2,
    record { class = f.3.class; full = extends.full f.0 f.3.full; keeps = f.3.keeps; fresh = f.3.fresh },
    filled-stays given rest f.1 f.4,
  )
  filled-stays given (scope inner rest) e f = (f.0, f.1, f.2, filled-stays (0 ∷ map suc given) inner f.0 f.3, filled-stays given rest f.1 f.4)

  -- the node is filled in the older graph and stands in the newer one
  pub added-replaced : Canonical newer → (x t b a : Applied) → IsFull older x → IsFull older t → IsFull older b → b ≢ x →
      (op : ℕ) (payloads : List (List ℕ)) (n : NodeArgs) → term_of older b ≡ layer_of older (node op payloads (unnamed (λ y. y) n)) →
      (m : NodeArgs) → HasReplacedIds older x t n m → (given : List ℕ) (e : DArgs) → FillsArgs older given (unnamed (λ y. y) m) e → IsFull newer a →
      term_of newer a ≡ layer_of newer (node op payloads e) → IsReplaced newer x t b a
  added-replaced can x t b a fx ft fb other op payloads n p m k given e f full q =
      let d : DTerm = node op payloads (unnamed (λ y. y) n) in
      named-searched newer can x t (extends.full x fx) (extends.full t ft) b a (extends.full b fb) other op payloads n
      (extends.terms b fb ∙ (p ∙ sym (extends.layers d (ids-full older x t (λ y. y) (λ y z i. i) n m k))))
      m (replaced_ids-stay older newer extends x t fx ft n m k) given e (filled-stays given (unnamed (λ y. y) m) e f) full q

-- ids one by one
length-ids : (n m : NodeArgs) → HasOtherIds n m → length (ids_of m) ≡ length (ids_of n)
length-ids no_more m h = ap (λ z. length (ids_of z)) h
length-ids (a_name y rest) m h = ap (λ z. length (ids_of z)) h.1 ∙ length-ids rest h.0 h.2
length-ids (an_id c rest) m h = ap (λ z. length (ids_of z)) h.2 ∙ ap suc (length-ids rest h.1 h.3)
length-ids (a_binder y inner rest) m h =
    let inside : length (ids_of h.0) ≡ length (ids_of inner) = length-ids inner h.0 h.3 in
    let after : length (ids_of h.1) ≡ length (ids_of rest) = length-ids rest h.1 h.4 in
    ap (λ z. length (ids_of z)) h.2 ∙ omega (arith, inside, after, length-append (ids_of h.0) (ids_of h.1), length-append (ids_of inner) (ids_of rest))

module _ (nodes : List DTerm) (x t : Applied) where
  -- each id is full, and has become that of its number
  abbrev EachAt : List Applied → List Applied → Type 0
  EachAt old new = (k : ℕ) → k < length old → IsFull nodes (get_or old k (0, [])) × IsReplaced nodes x t (get_or old k (0, [])) (get_or new k (0, []))

  -- none of the names is one of x or of t
  abbrev AreOthers : List ℕ → Type 0
  AreOthers ys = (y : ℕ) → Contains ys y → (¬ Contains (values x.1) y) × (¬ Contains (values t.1) y)

  pub replaced-by_number : (n m : NodeArgs) → HasOtherIds n m → AreOthers (bound_names n) → EachAt (ids_of n) (ids_of m) → HasReplacedIds nodes x t n m
  replaced-by_number no_more m h b e = h
  replaced-by_number (a_name y rest) m h b e = (h.0, h.1, replaced-by_number rest h.0 h.2 b (subst (λ z. EachAt (ids_of rest) (ids_of z)) h.1 e))
  replaced-by_number (an_id c rest) m h b e =
      let all : EachAt (c ∷ ids_of rest) (h.0 ∷ ids_of h.1) = subst (λ z. EachAt (c ∷ ids_of rest) (ids_of z)) h.2 e in
      let first : IsFull nodes c × IsReplaced nodes x t c h.0 = all 0 (omega arith) in
      (h.0, h.1, h.2, first.0, first.1, replaced-by_number rest h.1 h.3 b (λ k l. all (suc k) (omega (arith, l))))
  replaced-by_number (a_binder y inner rest) m h b e =
      let old_inner : List Applied = ids_of inner in
      let old_rest : List Applied = ids_of rest in
      let new_inner : List Applied = ids_of h.0 in
      let new_rest : List Applied = ids_of h.1 in
      let all : EachAt (old_inner ++ old_rest) (new_inner ++ new_rest) = subst (λ z. EachAt (old_inner ++ old_rest) (ids_of z)) h.2 e in
      let same : length new_inner ≡ length old_inner = length-ids inner h.0 h.3 in
      let here : (¬ Contains (values x.1) y) × (¬ Contains (values t.1) y) = b y (contains_head y (bound_names inner ++ bound_names rest)) in
      let names : (z : ℕ) → In z (bound_names inner ++ bound_names rest) → (¬ Contains (values x.1) z) × (¬ Contains (values t.1) z) =
      λ z i. b z (contains_tail y (bound_names inner ++ bound_names rest) z (Contains-In (bound_names inner ++ bound_names rest) z i)) in (
        h.0,
        h.1,
        h.2,
        here.0,
        here.1,
        replaced-by_number inner h.0 h.3
            (λ z i. names z (In-left z (bound_names inner) (bound_names rest) (In-Contains (bound_names inner) z i)))
            (λ k l.
            subst (λ c. IsFull nodes c × IsReplaced nodes x t c (get_or new_inner k (0, []))) (get_or_append_left old_inner old_rest (0, []) k l)
            (subst (λ a. IsFull nodes (get_or (old_inner ++ old_rest) k (0, [])) × IsReplaced nodes x t (get_or (old_inner ++ old_rest) k (0, [])) a)
            (get_or_append_left new_inner new_rest (0, []) k (omega (arith, l, same)))
            (all k (omega (arith, l, length-append old_inner old_rest))))),
        replaced-by_number rest h.1 h.4
            (λ z i. names z (In-right z (bound_names inner) (bound_names rest) (In-Contains (bound_names rest) z i)))
            (λ k l.
            subst (λ c. IsFull nodes c × IsReplaced nodes x t c (get_or new_rest k (0, []))) (get_or-append-add old_inner old_rest k (0, []))
            (subst (λ a. IsFull nodes (get_or (old_inner ++ old_rest) (length old_inner + k) (0, [])) × IsReplaced nodes x t (get_or (old_inner ++ old_rest) (length old_inner + k) (0, [])) a)
            (ap (λ z. get_or (new_inner ++ new_rest) (z + k) (0, [])) (sym same) ∙ get_or-append-add new_inner new_rest k (0, []))
            (all (length old_inner + k) (omega (arith, l, length-append old_inner old_rest))))),
      )

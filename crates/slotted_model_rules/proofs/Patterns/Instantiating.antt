-- Instances of patterns: they move with names, stay, exist, and are what is built from the bottom up.
use Rattle.std.proofs.Common.{◌≡◌, ◌↔◌, ℕ, zero, suc, List, ◌∷◌, sym, ◌∙◌, ap, refl, subst, inl, inr, arith}
use Rattle.std.specs.Prelude.{map, Contains, Bool, IsTrue}
use Rattle.std.proofs.lemmas.Bool.{cases_eq}
use Rattle.std.proofs.Math.Nat.{suc_inj}
use Rattle.std.proofs.Math.Path.{fun_ext}
use Rattle.slotted_lists.proofs.Contained.{contains_head, contains_tail, contains_cases, Contains-map, Contains-of_map}
use Rattle.slotted_lists.proofs.Maps.{keys-with_values, with_values-pair}
use Rattle.slotted_theory.specs.Term.{Args, Term, done, name, child, bind}
use Rattle.slotted_theory.specs.Nameless.{DArgs, DTerm, stop, place, scope, extend, lift, nameless_args, nameless_by, moved, moved_args}
use Rattle.slotted_theory.specs.FiniteMaps.{with_values}
use Rattle.slotted_theory.specs.Renaming.{IsInjective}
use Rattle.slotted_theory.proofs.Names.{lift-extend, lift-injective, extend-injective, extend-other}
use Rattle.slotted_theory.proofs.Values.{node, child_before, expand_args, expand}
use Rattle.slotted_model.specs.Applied.{Applied, renamed_id, as_term, applied_of}
use Rattle.slotted_model.specs.Classes.{stands, terms, term_of, layer_of, IsFull, Canonical}
use Rattle.slotted_model.specs.Filling.{IsValid, IsFilling, FillsArgs}
use Rattle.slotted_model.specs.Growth.{Extends}
use Rattle.slotted_model.proofs.Represented.Children.{expand-as_term}
use Rattle.slotted_model.proofs.Represented.Fillings.{filling-iff, a_filling}
use Rattle.slotted_model.proofs.Represented.Full.{full-renamed, term_of-renamed}
use Rattle.slotted_model.proofs.Represented.Ids.{term_eq-true}
use Rattle.slotted_model.proofs.Represented.RenamedIds.{valid-renamed}
use Rattle.slotted_model_rules.specs.Substitution.{substituted}
use Rattle.slotted_model_rules.specs.Patterns.{Pattern, PatternArgs, pattern_node, variable, replacing, no_argument, own_name, child_pattern, binding, EachVariable, EachVariableIn, pattern_args, pattern_of}
use Rattle.slotted_model_rules.specs.Instances.{IsInstance, IsInstanceArgs, is_itself, IsAnswer, HasAnswers}
use Rattle.slotted_model_rules.specs.PatternClaims.{MovesWithNames}
use Rattle.slotted_model_rules.proofs.Substitutions.Renamed.{renamed-twice, renamed-id, applied-as_term}
use Rattle.slotted_model_rules.proofs.Substitutions.Substituting.{moved-substituted}

-- each name that is given after f comes from one that is given before
abbrev ComeFrom : (ℕ → ℕ) → List ℕ → List ℕ → Type 0
ComeFrom f given other = (z : ℕ) → Contains other (f z) → Contains given z

come-inside : (given other : List ℕ) (y : ℕ) → Contains (0 ∷ map suc other) (suc y) → Contains other y
come-inside given other y c = elim (contains_cases 0 (map suc other) (suc y) c) [
  | inl e ↦ absurd (omega arith)
  | inr k ↦
      let r : (x : ℕ) × Contains other x × (suc x ≡ suc y) = Contains-of_map suc other (suc y) k in
      subst (Contains other) (suc_inj r.2) r.1
]

come-lifted : (f : ℕ → ℕ) (given other : List ℕ) → ComeFrom f given other → ComeFrom (lift f) (0 ∷ map suc given) (0 ∷ map suc other)
come-lifted f given other h zero c = contains_head 0 (map suc given)
come-lifted f given other h (suc y) c = contains_tail 0 (map suc given) (suc y) (Contains-map suc given y (h y (come-inside given other (f y) c)))

come-named : (ρ : ℕ → ℕ) (given other : List ℕ) (x : ℕ) → ComeFrom ρ given other → ComeFrom (extend x ρ) (x ∷ given) (0 ∷ map suc other)
come-named ρ given other x h z c = elim (cases_eq z x) [
  | inl e ↦ subst (Contains (x ∷ given)) (sym e) (contains_head x given)
  | inr n ↦ contains_tail x given z (h z (come-inside given other (ρ z) (subst (Contains (0 ∷ map suc other)) (extend-other x ρ z n) c)))
]

filling-moved : (nodes : List DTerm) (f : ℕ → ℕ) → IsInjective f → (given other : List ℕ) → ComeFrom f given other → (a b : Applied) → IsFilling nodes given a b → IsFilling nodes other (renamed_id f a) (renamed_id f b)
filling-moved nodes f inj given other h a b fill = record {
  class = fill.class;
  full = full-renamed nodes b fill.full f (λ x y i j. inj x y);
  keeps = λ s x c.
      let r : (y : ℕ) × Contains a.1 (s, y) × (f y ≡ x) = with_values-pair f a.1 s x c in
      subst (λ z. Contains (with_values f b.1) (s, z)) r.2 (Contains-map (λ (p : ℕ × ℕ). (p.0, f p.1)) b.1 (s, r.0) (fill.keeps s r.0 r.1));
  fresh = λ s x c n g.
      let r : (y : ℕ) × Contains b.1 (s, y) × (f y ≡ x) = with_values-pair f b.1 s x c in
      fill.fresh s r.0 r.1 (λ k. n (subst (λ ks. Contains ks s) (sym (keys-with_values f a.1)) k)) (h r.0 (subst (Contains other) (sym r.2) g));
}

module _ (R : DTerm → DTerm → Bool) (moves : MovesWithNames R) (nodes : List DTerm) (can : Canonical nodes) (σ : List ℕ → Applied) where
  mutual
    -- an instance moves with names
    pub instance-moved : (f : ℕ → ℕ) → IsInjective f → (given other : List ℕ) → ComeFrom f given other → (ρ : ℕ → ℕ) (p : Pattern) (t : DTerm) →
        IsInstance R nodes given σ ρ p t → IsInstance R nodes other σ (λ x. f (ρ x)) p (moved f t)
    instance-moved f inj given other h ρ (pattern_node op payloads args) t i = (moved_args f i.0, ap (moved f) i.1, arguments-moved f inj given other h ρ args i.0 i.2)
    instance-moved f inj given other h ρ (variable v) t i = (
      renamed_id f i.0,
      subst (λ a. IsFilling nodes other a (renamed_id f i.0)) (renamed-twice f ρ (σ v)) (filling-moved nodes f inj given other h (renamed_id ρ (σ v)) i.0 i.1),
      ap (moved f) i.2 ∙ sym (term_of-renamed nodes can i.0 i.1.full f),
    )
    instance-moved f inj given other h ρ (replacing body part value) t i = (
      moved f i.0,
      moved f i.1,
      moved f i.2,
      moved f i.3,
      instance-moved f inj given other h ρ body i.0 i.4,
      moves f inj i.0 i.1 i.5,
      instance-moved f inj given other h ρ part i.2 i.6,
      instance-moved f inj given other h ρ value i.3 i.7,
      ap (moved f) i.8 ∙ moved-substituted f inj i.2 i.3 i.1,
    )

    arguments-moved : (f : ℕ → ℕ) → IsInjective f → (given other : List ℕ) → ComeFrom f given other → (ρ : ℕ → ℕ) (args : PatternArgs) (a : DArgs) →
        IsInstanceArgs R nodes given σ ρ args a → IsInstanceArgs R nodes other σ (λ x. f (ρ x)) args (moved_args f a)
    arguments-moved f inj given other h ρ no_argument a i = ap (moved_args f) i
    arguments-moved f inj given other h ρ (own_name x rest) a i = (moved_args f i.0, ap (moved_args f) i.1, arguments-moved f inj given other h ρ rest i.0 i.2)
    arguments-moved f inj given other h ρ (child_pattern p rest) a i =
        (moved f i.0, moved_args f i.1, ap (moved_args f) i.2, instance-moved f inj given other h ρ p i.0 i.3, arguments-moved f inj given other h ρ rest i.1 i.4)
    arguments-moved f inj given other h ρ (binding x inner rest) a i = (
      moved_args (lift f) i.0,
      moved_args f i.1,
      ap (moved_args f) i.2,
      subst (λ r. IsInstanceArgs R nodes (0 ∷ map suc other) σ r inner (moved_args (lift f) i.0)) (fun_ext (lift-extend f x ρ))
          (arguments-moved (lift f) (lift-injective f inj) (0 ∷ map suc given) (0 ∷ map suc other) (come-lifted f given other h) (extend x ρ) inner i.0 i.3),
      arguments-moved f inj given other h ρ rest i.1 i.4,
    )

  -- the node over the answers, filled, stands for an instance
  built-args : (ρ : ℕ → ℕ) → IsInjective ρ → (given other : List ℕ) → ComeFrom ρ given other → (args : PatternArgs) (d e : DArgs) → HasAnswers R nodes given σ ρ args d → FillsArgs nodes other d e →
      IsInstanceArgs R nodes other σ ρ args (expand_args (stands (terms nodes)) e)
  built-args ρ inj given other h no_argument d e k f = ap (expand_args (stands (terms nodes))) (subst (λ z. FillsArgs nodes other z e) k f)
  built-args ρ inj given other h (own_name x rest) d e k f =
      let r : (z : DArgs) × (e ≡ place (ρ x) z) × FillsArgs nodes other k.0 z = subst (λ z. FillsArgs nodes other z e) k.1 f in
      (expand_args (stands (terms nodes)) r.0, ap (expand_args (stands (terms nodes))) r.1, built-args ρ inj given other h rest k.0 r.0 k.2 r.2)
  built-args ρ inj given other h (child_pattern p rest) d e k f =
      let a : Applied = renamed_id ρ k.0 in
      let r : (b : Applied) × (z : DArgs) × (e ≡ child_before (as_term b) z) × IsFilling nodes other (applied_of (as_term a).payloads (as_term a).args) b × FillsArgs nodes other k.1 z =
      subst (λ z. FillsArgs nodes other z e) k.2 f in
      let b : Applied = r.0 in
      let fill : IsFilling nodes other a b = subst (λ c. IsFilling nodes other c b) (applied-as_term a) r.3 in
      let child : DTerm = expand (stands (terms nodes)) (as_term b) in
      let term : child ≡ term_of nodes b = expand-as_term (terms nodes) b in (
        child,
        expand_args (stands (terms nodes)) r.1,
        ap (expand_args (stands (terms nodes))) r.2,
        subst (IsInstance R nodes other σ ρ p) (sym term) (answered p k.0 k.3 b fill),
        built-args ρ inj given other h rest k.1 r.1 k.4 r.4,
      )
    where
      answered : (p : Pattern) (a : Applied) → IsAnswer R nodes given σ p a → (b : Applied) → IsFilling nodes other (renamed_id ρ a) b → IsInstance R nodes other σ ρ p (term_of nodes b)
      answered p a (inl v) b fill =
          subst (λ q. IsInstance R nodes other σ ρ q (term_of nodes b)) (sym v.1) (b, subst (λ c. IsFilling nodes other (renamed_id ρ c) b) v.2 fill, refl)
      answered p a (inr i) b fill =
          let full : IsFull nodes (renamed_id ρ a) = full-renamed nodes a i.0 ρ (λ x y j l. inj x y) in
          let same : b ≡ renamed_id ρ a = (filling-iff nodes other (renamed_id ρ a) b full).0 fill in
          subst (IsInstance R nodes other σ ρ p) (sym (ap (term_of nodes) same ∙ term_of-renamed nodes can a i.0 ρ)) (instance-moved ρ inj given other h (λ y. y) p (term_of nodes a) i.1)
  built-args ρ inj given other h (binding x inner rest) d e k f =
      let r : (i : DArgs) × (z : DArgs) × (e ≡ scope i z) × FillsArgs nodes (0 ∷ map suc other) k.0 i × FillsArgs nodes other k.1 z = subst (λ z. FillsArgs nodes other z e) k.2 f in (
        expand_args (stands (terms nodes)) r.0,
        expand_args (stands (terms nodes)) r.1,
        ap (expand_args (stands (terms nodes))) r.2,
        built-args (extend x ρ) (extend-injective x ρ inj) (x ∷ given) (0 ∷ map suc other) (come-named ρ given other x h) inner k.0 r.0 k.3 r.3,
        built-args ρ inj given other h rest k.1 r.1 k.4 r.4,
      )

  pub built-nodes : (given : List ℕ) (op : ℕ) (payloads : List (List ℕ)) (args : PatternArgs) (d e : DArgs) → HasAnswers R nodes given σ (λ y. y) args d → FillsArgs nodes given d e →
      (a : Applied) → IsFull nodes a → term_of nodes a ≡ layer_of nodes (node op payloads e) → IsAnswer R nodes given σ (pattern_node op payloads args) a
  built-nodes given op payloads args d e k f a full t =
      inr (full, (expand_args (stands (terms nodes)) e, t, built-args (λ y. y) (λ x y p. p) given given (λ z c. c) args d e k f))

-- each filling of an answer stands for an instance
pub answer-instances : (R : DTerm → DTerm → Bool) (nodes : List DTerm) (given : List ℕ) (σ : List ℕ → Applied) (p : Pattern) (a : Applied) → IsAnswer R nodes given σ p a →
    (b : Applied) → IsFilling nodes given a b → IsInstance R nodes given σ (λ y. y) p (term_of nodes b)
answer-instances R nodes given σ p a (inl v) b fill =
    subst (λ q. IsInstance R nodes given σ (λ y. y) q (term_of nodes b)) (sym v.1) (b, subst (λ c. IsFilling nodes given c b) (v.2 ∙ sym (renamed-id (σ v.0))) fill, refl)
answer-instances R nodes given σ p a (inr i) b fill = subst (λ c. IsInstance R nodes given σ (λ y. y) p (term_of nodes c)) (sym ((filling-iff nodes given a b i.0).0 fill)) i.1

module _ (R : DTerm → DTerm → Bool) (older newer : List DTerm) (extends : Extends older newer) (σ : List ℕ → Applied) where
  mutual
    -- instances stay
    pub instance-stays : (given : List ℕ) (ρ : ℕ → ℕ) (p : Pattern) (t : DTerm) → IsInstance R older given σ ρ p t → IsInstance R newer given σ ρ p t
    instance-stays given ρ (pattern_node op payloads args) t i = (i.0, i.1, arguments-stay given ρ args i.0 i.2)
    instance-stays given ρ (variable v) t i =
        (i.0, record { class = i.1.class; full = extends.full i.0 i.1.full; keeps = i.1.keeps; fresh = i.1.fresh }, i.2 ∙ sym (extends.terms i.0 i.1.full))
    instance-stays given ρ (replacing body part value) t i =
        (i.0, i.1, i.2, i.3, instance-stays given ρ body i.0 i.4, i.5, instance-stays given ρ part i.2 i.6, instance-stays given ρ value i.3 i.7, i.8)

    arguments-stay : (given : List ℕ) (ρ : ℕ → ℕ) (args : PatternArgs) (a : DArgs) → IsInstanceArgs R older given σ ρ args a → IsInstanceArgs R newer given σ ρ args a
    arguments-stay given ρ no_argument a i = i
    arguments-stay given ρ (own_name x rest) a i = (i.0, i.1, arguments-stay given ρ rest i.0 i.2)
    arguments-stay given ρ (child_pattern p rest) a i = (i.0, i.1, i.2, instance-stays given ρ p i.0 i.3, arguments-stay given ρ rest i.1 i.4)
    arguments-stay given ρ (binding x inner rest) a i = (i.0, i.1, i.2, arguments-stay (0 ∷ map suc given) (extend x ρ) inner i.0 i.3, arguments-stay given ρ rest i.1 i.4)

module _ (R : DTerm → DTerm → Bool) (represented : (u : DTerm) → (r : DTerm) × IsTrue (R u r)) (nodes : List DTerm) (slots : ℕ → List ℕ) (σ : List ℕ → Applied) where
  mutual
    -- there is an instance
    pub an-instance : (given : List ℕ) (ρ : ℕ → ℕ) → IsInjective ρ → (p : Pattern) → EachVariable (λ v. IsValid slots nodes (σ v)) p → (t : DTerm) × IsInstance R nodes given σ ρ p t
    an-instance given ρ inj (pattern_node op payloads args) h =
        let r : (a : DArgs) × IsInstanceArgs R nodes given σ ρ args a = some-arguments given ρ inj args h in
        (node op payloads r.0, (r.0, refl, r.1))
    an-instance given ρ inj (variable v) h =
        let r : (b : Applied) × IsFilling nodes given (renamed_id ρ (σ v)) b = a_filling nodes slots given (renamed_id ρ (σ v)) (valid-renamed slots nodes ρ inj (σ v) h) in
        (term_of nodes r.0, (r.0, r.1, refl))
    an-instance given ρ inj (replacing body part value) h =
        let b : (t : DTerm) × IsInstance R nodes given σ ρ body t = an-instance given ρ inj body h.0 in
        let x : (t : DTerm) × IsInstance R nodes given σ ρ part t = an-instance given ρ inj part h.1 in
        let y : (t : DTerm) × IsInstance R nodes given σ ρ value t = an-instance given ρ inj value h.2 in
        let r : (r : DTerm) × IsTrue (R b.0 r) = represented b.0 in
        (substituted x.0 y.0 r.0, (b.0, r.0, x.0, y.0, b.1, r.1, x.1, y.1, refl))

    some-arguments : (given : List ℕ) (ρ : ℕ → ℕ) → IsInjective ρ → (args : PatternArgs) → EachVariableIn (λ v. IsValid slots nodes (σ v)) args → (a : DArgs) × IsInstanceArgs R nodes given σ ρ args a
    some-arguments given ρ inj no_argument h = (stop, refl)
    some-arguments given ρ inj (own_name x rest) h =
        let r : (a : DArgs) × IsInstanceArgs R nodes given σ ρ rest a = some-arguments given ρ inj rest h in
        (place (ρ x) r.0, (r.0, refl, r.1))
    some-arguments given ρ inj (child_pattern p rest) h =
        let c : (t : DTerm) × IsInstance R nodes given σ ρ p t = an-instance given ρ inj p h.0 in
        let r : (a : DArgs) × IsInstanceArgs R nodes given σ ρ rest a = some-arguments given ρ inj rest h.1 in
        (child_before c.0 r.0, (c.0, r.0, refl, c.1, r.1))
    some-arguments given ρ inj (binding x inner rest) h =
        let i : (a : DArgs) × IsInstanceArgs R nodes (0 ∷ map suc given) σ (extend x ρ) inner a = some-arguments (0 ∷ map suc given) (extend x ρ) (extend-injective x ρ inj) inner h.0 in
        let r : (a : DArgs) × IsInstanceArgs R nodes given σ ρ rest a = some-arguments given ρ inj rest h.1 in
        (scope i.0 r.0, (i.0, r.0, refl, i.1, r.1))

module _ (nodes : List DTerm) (σ : List ℕ → Applied) where
  mutual
    -- over full values, where each term represents itself, there is one instance
    pub one-instance : (given other : List ℕ) (ρ : ℕ → ℕ) → IsInjective ρ → (p : Pattern) → EachVariable (λ v. IsFull nodes (σ v)) p → (t u : DTerm) →
        IsInstance is_itself nodes given σ ρ p t → IsInstance is_itself nodes other σ ρ p u → t ≡ u
    one-instance given other ρ inj (pattern_node op payloads args) h t u i j = i.1 ∙ (ap (node op payloads) (same-arguments given other ρ inj args h i.0 j.0 i.2 j.2) ∙ sym j.1)
    one-instance given other ρ inj (variable v) h t u i j =
        let full : IsFull nodes (renamed_id ρ (σ v)) = full-renamed nodes (σ v) h ρ (λ x y k l. inj x y) in
        i.2 ∙ (ap (term_of nodes) ((filling-iff nodes given (renamed_id ρ (σ v)) i.0 full).0 i.1 ∙ sym ((filling-iff nodes other (renamed_id ρ (σ v)) j.0 full).0 j.1)) ∙ sym j.2)
    one-instance given other ρ inj (replacing body part value) h t u i j =
        let b : i.0 ≡ j.0 = one-instance given other ρ inj body h.0 i.0 j.0 i.4 j.4 in
        let r : i.1 ≡ j.1 = term_eq-true i.1 i.0 i.5 ∙ (b ∙ sym (term_eq-true j.1 j.0 j.5)) in
        let x : i.2 ≡ j.2 = one-instance given other ρ inj part h.1 i.2 j.2 i.6 j.6 in
        let y : i.3 ≡ j.3 = one-instance given other ρ inj value h.2 i.3 j.3 i.7 j.7 in
        i.8 ∙ ((λ k. substituted (x k) (y k) (r k)) ∙ sym j.8)

    same-arguments : (given other : List ℕ) (ρ : ℕ → ℕ) → IsInjective ρ → (args : PatternArgs) → EachVariableIn (λ v. IsFull nodes (σ v)) args → (a b : DArgs) →
        IsInstanceArgs is_itself nodes given σ ρ args a → IsInstanceArgs is_itself nodes other σ ρ args b → a ≡ b
    same-arguments given other ρ inj no_argument h a b i j = i ∙ sym j
    same-arguments given other ρ inj (own_name x rest) h a b i j = i.1 ∙ (ap (place (ρ x)) (same-arguments given other ρ inj rest h i.0 j.0 i.2 j.2) ∙ sym j.1)
    same-arguments given other ρ inj (child_pattern p rest) h a b i j =
        let c : i.0 ≡ j.0 = one-instance given other ρ inj p h.0 i.0 j.0 i.3 j.3 in
        i.2 ∙ ((λ k. child_before (c k) (same-arguments given other ρ inj rest h.1 i.1 j.1 i.4 j.4 k)) ∙ sym j.2)
    same-arguments given other ρ inj (binding x inner rest) h a b i j =
        let c : i.0 ≡ j.0 = same-arguments (0 ∷ map suc given) (0 ∷ map suc other) (extend x ρ) (extend-injective x ρ inj) inner h.0 i.0 j.0 i.3 j.3 in
        i.2 ∙ ((λ k. scope (c k) (same-arguments given other ρ inj rest h.1 i.1 j.1 i.4 j.4 k)) ∙ sym j.2)

module _ (R : DTerm → DTerm → Bool) (nodes : List DTerm) (σ : List ℕ → Applied) where
  -- a term as a pattern has the term as its only instance
  term-args : (given : List ℕ) (ρ : ℕ → ℕ) (a : Args) (d : DArgs) → IsInstanceArgs R nodes given σ ρ (pattern_args a) d → d ≡ nameless_args ρ a
  term-args given ρ done d i = i
  term-args given ρ (name x rest) d i = i.1 ∙ ap (place (ρ x)) (term-args given ρ rest i.0 i.2)
  term-args given ρ (child op payloads args rest) d i =
      let c : i.0 ≡ node op payloads (nameless_args ρ args) = i.3.1 ∙ ap (node op payloads) (term-args given ρ args i.3.0 i.3.2) in
      i.2 ∙ (λ k. child_before (c k) (term-args given ρ rest i.1 i.4 k))
  term-args given ρ (bind x inner rest) d i =
      i.2 ∙ (λ k. scope (term-args (0 ∷ map suc given) (extend x ρ) inner i.0 i.3 k) (term-args given ρ rest i.1 i.4 k))

  args-term : (given : List ℕ) (ρ : ℕ → ℕ) (a : Args) → IsInstanceArgs R nodes given σ ρ (pattern_args a) (nameless_args ρ a)
  args-term given ρ done = refl
  args-term given ρ (name x rest) = (nameless_args ρ rest, refl, args-term given ρ rest)
  args-term given ρ (child op payloads args rest) =
      (node op payloads (nameless_args ρ args), nameless_args ρ rest, refl, (nameless_args ρ args, refl, args-term given ρ args), args-term given ρ rest)
  args-term given ρ (bind x inner rest) =
      (nameless_args (extend x ρ) inner, nameless_args ρ rest, refl, args-term (0 ∷ map suc given) (extend x ρ) inner, args-term given ρ rest)

  pub term-instances : (given : List ℕ) (ρ : ℕ → ℕ) (t : Term) (u : DTerm) → IsInstance R nodes given σ ρ (pattern_of t) u ↔ (u ≡ nameless_by ρ t)
  term-instances given ρ t u = (
    λ i. i.1 ∙ ap (node t.op t.payloads) (term-args given ρ t.args i.0 i.2),
    λ e. (nameless_args ρ t.args, e, args-term given ρ t.args),
  )

-- A walk is the pairing of two flat lists, where names, binders and children stand in the same places; and whether they do can be seen without names.
use Rattle.std.proofs.Common.{◌≡◌, ℕ, suc, List, [], ◌∷◌, ◌++◌, ◌+◌, ◌⊎◌, length, length-append, Option, Some, None, Bool, true, false, sym, ◌∙◌, ap, refl, subst, inl, inr, arith}
use Rattle.std.specs.Prelude.{◌↔◌, Contains, option_and_then, cond, filter, ◌&&◌}
use Rattle.std.proofs.lemmas.Bool.{cases_Bool, false≢true}
use Rattle.slotted_lists.proofs.Contained.{Contains-nil}
use Rattle.slotted_lists.proofs.Members.{In, In-append, In-Contains, Contains-In}
use Rattle.slotted_theory.specs.Nameless.{DArgs, stop, place, sub, scope, extend, lift, moved_args}
use Rattle.slotted_theory.specs.FiniteMaps.{filled}
use Rattle.slotted_model.specs.Applied.{Applied, EachChild}
use Rattle.slotted_model.specs.State.{Row, State, filed_node}
use Rattle.slotted_model.specs.Rest.{IsValidIn, AtRest}
use Rattle.slotted_model_rules.specs.Patterns.{Pattern, PatternArgs, pattern_node, no_argument, own_name, child_pattern, binding}
use Rattle.slotted_model_rules.specs.Matcher.{NodeArgs, no_more, a_name, an_id, a_binder, unnamed, MatchState, paired, walked, IsRowFor, IsNodeOf, Gives, IfThere}
use Rattle.slotted_model_rules.specs.Goals.{FoundAll, goals_of, AtRow, after_walk, own_slots, own_names, paired_all, outlines_agree, has_outline}
use Rattle.slotted_model_rules.proofs.Matching.Goals.{node-goal, kept-members}
use Rattle.slotted_model_rules.proofs.Matching.Running.{a-node, fits-or-not}
use Rattle.slotted_model_rules.proofs.Matching.ValidValues.{IdsValid, ids-valid, row-valid}

-- two steps one after another, of which the first may have none
then-none : {A B : Type 0} (f : A → Option B) (o : Option A) → ((x : A) → f x ≡ None) → option_and_then f o ≡ None
then-none f None h = refl
then-none f (Some x) h = h x

then-same : {A B : Type 0} (f h : A → Option B) (o : Option A) → ((x : A) → f x ≡ h x) → option_and_then f o ≡ option_and_then h o
then-same f h None e = refl
then-same f h (Some x) e = e x

then-then : {A B C : Type 0} (f : A → Option B) (h : B → Option C) (o : Option A) → option_and_then h (option_and_then f o) ≡ option_and_then (λ x. option_and_then h (f x)) o
then-then f h None = refl
then-then f h (Some x) = refl

-- pairing one list after another, where the first parts have one length
paired-append : (pairs : List (ℕ × ℕ)) (ys zs xs us : List ℕ) → length ys ≡ length xs → paired_all pairs (ys ++ zs) (xs ++ us) ≡ option_and_then (λ more. paired_all more zs us) (paired_all pairs ys xs)
paired-append pairs [] zs [] us e = refl
paired-append pairs [] zs (x ∷ xs) us e = absurd (omega arith)
paired-append pairs (y ∷ ys) zs [] us e = absurd (omega arith)
paired-append pairs (y ∷ ys) zs (x ∷ xs) us e =
    then-same (λ more. paired_all more (ys ++ zs) (xs ++ us)) (λ more. option_and_then (λ m. paired_all m zs us) (paired_all more ys xs)) (paired pairs y x) (λ more. paired-append more ys zs xs us (omega arith))
    ∙ sym (then-then (λ more. paired_all more ys xs) (λ m. paired_all m zs us) (paired pairs y x))

both-true : (b c : Bool) → b && c ≡ true → (b ≡ true) × (c ≡ true)
both-true true c e = (refl, e)
both-true false c e = absurd (false≢true e)

one-false : (b c : Bool) → b && c ≡ false → (b ≡ false) ⊎ (c ≡ false)
one-false true c e = inr e
one-false false c e = inl refl

-- where the outlines agree both have one number of names
pub same-length : (args : PatternArgs) (n : NodeArgs) → outlines_agree args n ≡ true → length (own_names n) ≡ length (own_slots args)
same-length no_argument no_more e = refl
same-length (own_name x rest) (a_name y n) e = ap suc (same-length rest n e)
same-length (child_pattern p rest) (an_id a n) e = same-length rest n e
same-length (binding x inner rest) (a_binder y m n) e =
    let k = both-true (outlines_agree inner m) (outlines_agree rest n) e in
    ap suc (length-append (own_names m) (own_names n) ∙ ((λ i. same-length inner m k.0 i + same-length rest n k.1 i) ∙ sym (length-append (own_slots inner) (own_slots rest))))
same-length _ _ e = absurd (false≢true e)

-- and the walk is the pairing
pub walk-paired : (args : PatternArgs) (n : NodeArgs) (pairs : List (ℕ × ℕ)) → outlines_agree args n ≡ true → walked args n pairs ≡ paired_all pairs (own_names n) (own_slots args)
walk-paired no_argument no_more pairs e = refl
walk-paired (own_name x rest) (a_name y n) pairs e =
    then-same (walked rest n) (λ more. paired_all more (own_names n) (own_slots rest)) (paired pairs y x) (λ more. walk-paired rest n more e)
walk-paired (child_pattern p rest) (an_id a n) pairs e = walk-paired rest n pairs e
walk-paired (binding x inner rest) (a_binder y m n) pairs e =
    let k = both-true (outlines_agree inner m) (outlines_agree rest n) e in
    let last : List (ℕ × ℕ) → Option (List (ℕ × ℕ)) = λ more. paired_all more (own_names n) (own_slots rest) in
    then-then (walked inner m) (walked rest n) (paired pairs y x)
    ∙ then-same (λ more. option_and_then (walked rest n) (walked inner m more)) (λ more. paired_all more (own_names m ++ own_names n) (own_slots inner ++ own_slots rest)) (paired pairs y x)
    (λ more.
    then-same (walked rest n) last (walked inner m more) (λ q. walk-paired rest n q k.1)
    ∙ (ap (option_and_then last) (walk-paired inner m more k.0) ∙ sym (paired-append more (own_names m) (own_names n) (own_slots inner) (own_slots rest) (same-length inner m k.0))))
walk-paired _ _ pairs e = absurd (false≢true e)

-- where they do not agree there is no walk
pub no-walk : (args : PatternArgs) (n : NodeArgs) (pairs : List (ℕ × ℕ)) → outlines_agree args n ≡ false → walked args n pairs ≡ None
no-walk no_argument no_more pairs e = absurd (false≢true (sym e))
no-walk (own_name x rest) (a_name y n) pairs e = then-none (walked rest n) (paired pairs y x) (λ more. no-walk rest n more e)
no-walk (child_pattern p rest) (an_id a n) pairs e = no-walk rest n pairs e
no-walk (binding x inner rest) (a_binder y m n) pairs e = elim (one-false (outlines_agree inner m) (outlines_agree rest n) e) [
  | inl k ↦ ap (option_and_then (walked rest n)) (then-none (walked inner m) (paired pairs y x) (λ more. no-walk inner m more k))
  | inr k ↦ then-none (walked rest n) (option_and_then (walked inner m) (paired pairs y x)) (λ more. no-walk rest n more k)
]
no-walk _ _ pairs e = refl

pub flat-walk : (args : PatternArgs) (n : NodeArgs) (pairs : List (ℕ × ℕ)) → walked args n pairs ≡ cond (outlines_agree args n) (paired_all pairs (own_names n) (own_slots args)) None
flat-walk args n pairs = elim (cases_Bool (outlines_agree args n)) [
  | inl e ↦ walk-paired args n pairs e ∙ ap (λ b. cond b (paired_all pairs (own_names n) (own_slots args)) None) (sym e)
  | inr e ↦ no-walk args n pairs e ∙ ap (λ b. cond b (paired_all pairs (own_names n) (own_slots args)) None) (sym e)
]

-- the outline of a node with names is that of the node without
pub outline-unnamed : (ρ : ℕ → ℕ) (args : PatternArgs) (n : NodeArgs) → has_outline args (unnamed ρ n) ≡ outlines_agree args n
outline-unnamed ρ no_argument no_more = refl
outline-unnamed ρ (own_name x rest) (a_name y n) = outline-unnamed ρ rest n
outline-unnamed ρ (child_pattern p rest) (an_id a n) = outline-unnamed ρ rest n
outline-unnamed ρ (binding x inner rest) (a_binder y m n) = λ i. outline-unnamed (extend y ρ) inner m i && outline-unnamed ρ rest n i
outline-unnamed ρ no_argument (a_name y n) = refl
outline-unnamed ρ no_argument (an_id a n) = refl
outline-unnamed ρ no_argument (a_binder y m n) = refl
outline-unnamed ρ (own_name x rest) no_more = refl
outline-unnamed ρ (own_name x rest) (an_id a n) = refl
outline-unnamed ρ (own_name x rest) (a_binder y m n) = refl
outline-unnamed ρ (child_pattern p rest) no_more = refl
outline-unnamed ρ (child_pattern p rest) (a_name y n) = refl
outline-unnamed ρ (child_pattern p rest) (a_binder y m n) = refl
outline-unnamed ρ (binding x inner rest) no_more = refl
outline-unnamed ρ (binding x inner rest) (a_name y n) = refl
outline-unnamed ρ (binding x inner rest) (an_id a n) = refl

-- and it stays where names are exchanged
pub outline-moved : (f : ℕ → ℕ) (args : PatternArgs) (d : DArgs) → has_outline args (moved_args f d) ≡ has_outline args d
outline-moved f no_argument stop = refl
outline-moved f (own_name x rest) (place y d) = outline-moved f rest d
outline-moved f (child_pattern p rest) (sub op payloads args d) = outline-moved f rest d
outline-moved f (binding x inner rest) (scope i d) = λ j. outline-moved (lift f) inner i j && outline-moved f rest d j
outline-moved f no_argument (place y d) = refl
outline-moved f no_argument (sub op payloads args d) = refl
outline-moved f no_argument (scope i d) = refl
outline-moved f (own_name x rest) stop = refl
outline-moved f (own_name x rest) (sub op payloads args d) = refl
outline-moved f (own_name x rest) (scope i d) = refl
outline-moved f (child_pattern p rest) stop = refl
outline-moved f (child_pattern p rest) (place y d) = refl
outline-moved f (child_pattern p rest) (scope i d) = refl
outline-moved f (binding x inner rest) stop = refl
outline-moved f (binding x inner rest) (place y d) = refl
outline-moved f (binding x inner rest) (sub op payloads args d) = refl

-- so a node of the matcher's has the outline of its row's shape
pub node-outline : (g : State) (seen : List ℕ) (r : Row) (a : Applied) (n : NodeArgs) (args : PatternArgs) → IsNodeOf g seen r a n → outlines_agree args n ≡ has_outline args r.shape.args
node-outline g seen r a n args is =
    sym (outline-unnamed (λ y. y) args n)
    ∙ (ap (has_outline args) is.form ∙ (outline-moved (filled is.id.1) args (filed_node r).args ∙ outline-moved (filled r.slots) args r.shape.args))

-- a row is walked to no end, or does not fit: nothing comes of it
pub other-row : (g : State) → AtRest g → (op : ℕ) (payloads : List (List ℕ)) (args : PatternArgs) (st : MatchState) (a : Applied) (next : NodeArgs → MatchState → List MatchState → Type 0) (r : Row) →
    Contains g.rows r → IsValidIn g a → (¬ IsRowFor g r op payloads a) ⊎ (has_outline args r.shape.args ≡ false) →
    AtRow g op payloads args st a next r [] × ((here : List MatchState) → AtRow g op payloads args st a next r here → here ≡ [])
other-row g rest op payloads args st a next r filed va (inl n) = (inl (n, refl), λ here k. nothing here k)
  where
    nothing : (here : List MatchState) → AtRow g op payloads args st a next r here → here ≡ []
    nothing here (inl k) = k.1
    nothing here (inr k) = absurd (n k.1)
other-row g rest op payloads args st a next r filed va (inr e) = (there (fits-or-not g rest [] none r op payloads a), λ here k. nothing here k)
  where
    none : (q : Row) → Contains [] q → Contains g.rows q
    none q c = absurd (Contains-nil q c)

    stops : (n : NodeArgs) → IsNodeOf g st.seen r a n → walked args n st.pairs ≡ None
    stops n is = no-walk args n st.pairs (node-outline g st.seen r a n args is ∙ e)

    there : IsRowFor g r op payloads a ⊎ (¬ IsRowFor g r op payloads a) → AtRow g op payloads args st a next r []
    there (inr n) = inl (n, refl)
    there (inl fits) =
        let m : (n : NodeArgs) × IsNodeOf g st.seen r a n = a-node g rest [] none st.seen r filed a va fits.class in
        inr (m.0, fits, m.1, subst (λ o. IfThere o (λ pairs. next m.0 (after_walk st m.0 pairs) []) (◌≡◌ {A = List MatchState} [] [])) (sym (stops m.0 m.1)) refl)

    nothing : (here : List MatchState) → AtRow g op payloads args st a next r here → here ≡ []
    nothing here (inl k) = k.1
    nothing here (inr k) = subst (λ o. IfThere o (λ pairs. next k.0 (after_walk st k.0 pairs) here) (here ≡ [])) (stops k.0 k.2) k.3

-- so a search can pass over such rows
pub passed-over : (g : State) → AtRest g → (order : List Row) → ((r : Row) → Contains order r → Contains g.rows r) → (op : ℕ) (payloads : List (List ℕ)) (args : PatternArgs) (a : Applied) → IsValidIn g a → (keep : Row → Bool) →
    ((r : Row) → Contains order r → keep r ≡ false → (¬ IsRowFor g r op payloads a) ⊎ (has_outline args r.shape.args ≡ false)) → (goals : List (Pattern × Applied)) (st : MatchState) (outs : List MatchState) →
    FoundAll g order ((pattern_node op payloads args, a) ∷ goals) st outs ↔ Gives (AtRow g op payloads args st a (λ n s here. FoundAll g order (goals_of args n ++ goals) s here)) (filter keep order) outs
passed-over g rest order filed op payloads args a va keep others goals st outs =
    let next : NodeArgs → MatchState → List MatchState → Type 0 = λ n s here. FoundAll g order (goals_of args n ++ goals) s here in
    let k = node-goal g order op payloads args a goals st outs in
    let m =
    kept-members (AtRow g op payloads args st a next) keep order outs
    (λ r i e. other-row g rest op payloads args st a next r (filed r (Contains-In order r i)) va (others r (Contains-In order r i) e)) in
    (λ f. m.0 (k.0 f), λ h. k.1 (m.1 h))

-- and the goals that a node makes are at valid ids
goals-valid : (g : State) (args : PatternArgs) (n : NodeArgs) → IdsValid g n → outlines_agree args n ≡ true → (q : Pattern × Applied) → In q (goals_of args n) → IsValidIn g q.1
goals-valid g no_argument no_more v e q i = absurd i
goals-valid g (own_name x rest) (a_name y n) v e q i = goals-valid g rest n v e q i
goals-valid g (child_pattern p rest) (an_id a n) v e q (inl same) = subst (λ (u : Pattern × Applied). IsValidIn g u.1) (sym same) v.0
goals-valid g (child_pattern p rest) (an_id a n) v e q (inr i) = goals-valid g rest n v.1 e q i
goals-valid g (binding x inner rest) (a_binder y m n) v e q i =
    let k = both-true (outlines_agree inner m) (outlines_agree rest n) e in
    elim (In-append q (goals_of inner m) (goals_of rest n) i) [
      | inl j ↦ goals-valid g inner m v.0 k.0 q j
      | inr j ↦ goals-valid g rest n v.1 k.1 q j
    ]
goals-valid g _ _ v e q i = absurd (false≢true e)

pub row-goals-valid : (g : State) → AtRest g → (seen : List ℕ) (r : Row) (a : Applied) (args : PatternArgs) (n : NodeArgs) → IsNodeOf g seen r a n → outlines_agree args n ≡ true →
    (q : Pattern × Applied) → Contains (goals_of args n) q → IsValidIn g q.1
row-goals-valid g rest seen r a args n is e q c =
    goals-valid g args n (ids-valid g (λ y. y) n (subst (EachChild (IsValidIn g)) (sym is.form) (row-valid g rest [] r is.id a is.of_row))) e q (In-Contains (goals_of args n) q c)

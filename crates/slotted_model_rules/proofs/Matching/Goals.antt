-- Goals one after another: what the matcher finds breadth first is what it finds goal by goal.
use Rattle.std.proofs.Common.{◌≡◌, ◌≢◌, ℕ, List, [], ◌∷◌, ◌++◌, Option, Some, None, Bool, true, false, sym, ◌∙◌, ap, refl, subst, inl, inr, append_assoc}
use Rattle.std.specs.Prelude.{◌↔◌, cond, filter}
use Rattle.std.proofs.lemmas.Bool.{cases_Bool}
use Rattle.std.proofs.lemmas.List.{append-nil}
use Rattle.slotted_lists.proofs.Members.{In}
use Rattle.slotted_model.specs.Affected.{id_eq}
use Rattle.slotted_model.specs.Applied.{Applied, as_term}
use Rattle.slotted_model.specs.Find.{find}
use Rattle.slotted_model.specs.State.{Row, State}
use Rattle.slotted_model.proofs.Represented.Ids.{term_eq-same}
use Rattle.slotted_model.proofs.Complete.Spreading.{id_eq-same}
use Rattle.slotted_model_rules.specs.Patterns.{Pattern, PatternArgs, pattern_node, variable, replacing, no_argument, own_name, child_pattern, binding}
use Rattle.slotted_model_rules.specs.Matcher.{NodeArgs, rest_of, inside_first, MatchState, value_at, walked, Gives, IfThere, with_value, Found, FoundIn}
use Rattle.slotted_model_rules.specs.Goals.{FoundAll, goals_of, after_walk, AtRow}

-- what is given for each of a list, where more may be given for each
pub gives-map : {A B : Type 0} (P Q : A → List B → Type 0) → ((x : A) (here : List B) → P x here → Q x here) → (xs : List A) (outs : List B) → Gives P xs outs → Gives Q xs outs
gives-map P Q h [] outs g = g
gives-map P Q h (x ∷ xs) outs g = (g.0, g.1, g.2, h x g.0 g.3, gives-map P Q h xs g.1 g.4)

-- of a list with one member
gives-one : {A B : Type 0} (P : A → List B → Type 0) (x : A) (outs : List B) → P x outs → Gives P (x ∷ []) outs
gives-one P x outs p = (outs, [], sym (append-nil outs), p, refl)

of-one : {A B : Type 0} (P : A → List B → Type 0) (x : A) (outs : List B) → Gives P (x ∷ []) outs → P x outs
of-one P x outs g = subst (P x) (sym (g.2 ∙ (ap (λ l. g.0 ++ l) g.4 ∙ append-nil g.0))) g.3

-- of one list after another
gives-append : {A B : Type 0} (P : A → List B → Type 0) (xs ys : List A) (outs more : List B) → Gives P xs outs → Gives P ys more → Gives P (xs ++ ys) (outs ++ more)
gives-append P [] ys outs more g h = subst (λ l. Gives P ys (l ++ more)) (sym g) h
gives-append P (x ∷ xs) ys outs more g h =
    (g.0, g.1 ++ more, ap (λ l. l ++ more) g.2 ∙ append_assoc g.0 g.1 more, g.3, gives-append P xs ys g.1 more g.4 h)

of-append : {A B : Type 0} (P : A → List B → Type 0) (xs ys : List A) (outs : List B) → Gives P (xs ++ ys) outs →
    (one : List B) × (two : List B) × (outs ≡ one ++ two) × Gives P xs one × Gives P ys two
of-append P [] ys outs g = ([], outs, refl, refl, g)
of-append P (x ∷ xs) ys outs g =
    let r = of-append P xs ys g.1 g.4 in
    (g.0 ++ r.0, r.1, g.2 ∙ (ap (λ l. g.0 ++ l) r.2 ∙ sym (append_assoc g.0 r.0 r.1)), (g.0, r.0, refl, g.3, r.3), r.4)

-- two steps for the whole list are two steps for each of its members
gives-then : {A B C : Type 0} (P : A → List B → Type 0) (Q : B → List C → Type 0) (xs : List A) (mid : List B) (outs : List C) → Gives P xs mid → Gives Q mid outs →
    Gives (λ x here. (m : List B) × P x m × Gives Q m here) xs outs
gives-then P Q [] mid outs g h = subst (λ l. Gives Q l outs) g h
gives-then P Q (x ∷ xs) mid outs g h =
    let r = of-append Q g.0 g.1 outs (subst (λ l. Gives Q l outs) g.2 h) in
    (r.0, r.1, r.2, (g.0, g.3, r.3), gives-then P Q xs g.1 r.1 g.4 r.4)

of-then : {A B C : Type 0} (P : A → List B → Type 0) (Q : B → List C → Type 0) (xs : List A) (outs : List C) → Gives (λ x here. (m : List B) × P x m × Gives Q m here) xs outs →
    (mid : List B) × Gives P xs mid × Gives Q mid outs
of-then P Q [] outs g = ([], refl, g)
of-then P Q (x ∷ xs) outs g =
    let r = of-then P Q xs g.1 g.4 in
    (g.3.0 ++ r.0, (g.3.0, r.0, refl, g.3.1, r.1), subst (Gives Q (g.3.0 ++ r.0)) (sym g.2) (gives-append Q g.3.0 r.0 g.0 g.1 g.3.2 r.2))

-- each state gives itself
gives-itself : {A : Type 0} (xs : List A) → Gives (λ x here. here ≡ x ∷ []) xs xs
gives-itself [] = refl
gives-itself (x ∷ xs) = (x ∷ [], xs, refl, refl, gives-itself xs)

of-itself : {A : Type 0} (xs outs : List A) → Gives (λ x here. here ≡ x ∷ []) xs outs → outs ≡ xs
of-itself [] outs g = g
of-itself (x ∷ xs) outs g = g.2 ∙ ((λ i. g.3 i ++ g.1) ∙ ap (λ l. x ∷ l) (of-itself xs g.1 g.4))

module _ (g : State) (order : List Row) where
  -- one list of goals after another
  pub all-append : (goals more : List (Pattern × Applied)) (st : MatchState) (mid outs : List MatchState) → FoundAll g order goals st mid →
      Gives (λ s here. FoundAll g order more s here) mid outs → FoundAll g order (goals ++ more) st outs
  all-append [] more st mid outs f h = of-one (λ s here. FoundAll g order more s here) st outs (subst (λ l. Gives (λ s here. FoundAll g order more s here) l outs) f h)
  all-append (q ∷ goals) more st mid outs f h = (
    f.0,
    f.1,
    gives-map (λ s here. (m : List MatchState) × FoundAll g order goals s m × Gives (λ t then. FoundAll g order more t then) m here) (λ s here. FoundAll g order (goals ++ more) s here)
        (λ s here k. all-append goals more s k.0 here k.1 k.2) f.0 outs
        (gives-then (λ s here. FoundAll g order goals s here) (λ s here. FoundAll g order more s here) f.0 mid outs f.2 h),
  )

  pub of-all-append : (goals more : List (Pattern × Applied)) (st : MatchState) (outs : List MatchState) → FoundAll g order (goals ++ more) st outs →
      (mid : List MatchState) × FoundAll g order goals st mid × Gives (λ s here. FoundAll g order more s here) mid outs
  of-all-append [] more st outs f = (st ∷ [], refl, gives-one (λ s here. FoundAll g order more s here) st outs f)
  of-all-append (q ∷ goals) more st outs f =
      let r = of-then (λ s here. FoundAll g order goals s here) (λ s here. FoundAll g order more s here) f.0 outs
      (gives-map (λ s here. FoundAll g order (goals ++ more) s here) (λ s here. (m : List MatchState) × FoundAll g order goals s m × Gives (λ t then. FoundAll g order more t then) m here)
      (λ s here k. of-all-append goals more s here k) f.0 outs f.2) in
      (r.0, (f.0, f.1, r.1), r.2)

  -- the arguments of a node are the goals that they make
  in-goals : (args : PatternArgs) (n : NodeArgs) (st : MatchState) (outs : List MatchState) → FoundIn g order args n st outs → FoundAll g order (goals_of args n) st outs
  in-goals no_argument n st outs f = f
  in-goals (own_name x rest) n st outs f = in-goals rest (rest_of n) st outs f
  in-goals (child_pattern p rest) n st outs f =
      (f.0, f.1, gives-map (λ s here. FoundIn g order rest (rest_of n) s here) (λ s here. FoundAll g order (goals_of rest (rest_of n)) s here) (λ s here k. in-goals rest (rest_of n) s here k) f.0 outs f.2)
  in-goals (binding x inner rest) n st outs f =
      all-append (goals_of inner (inside_first n)) (goals_of rest (rest_of n)) st f.0 outs (in-goals inner (inside_first n) st f.0 f.1)
      (gives-map (λ s here. FoundIn g order rest (rest_of n) s here) (λ s here. FoundAll g order (goals_of rest (rest_of n)) s here) (λ s here k. in-goals rest (rest_of n) s here k) f.0 outs f.2)

  of-goals : (args : PatternArgs) (n : NodeArgs) (st : MatchState) (outs : List MatchState) → FoundAll g order (goals_of args n) st outs → FoundIn g order args n st outs
  of-goals no_argument n st outs f = f
  of-goals (own_name x rest) n st outs f = of-goals rest (rest_of n) st outs f
  of-goals (child_pattern p rest) n st outs f =
      (f.0, f.1, gives-map (λ s here. FoundAll g order (goals_of rest (rest_of n)) s here) (λ s here. FoundIn g order rest (rest_of n) s here) (λ s here k. of-goals rest (rest_of n) s here k) f.0 outs f.2)
  of-goals (binding x inner rest) n st outs f =
      let r = of-all-append (goals_of inner (inside_first n)) (goals_of rest (rest_of n)) st outs f in (
        r.0,
        of-goals inner (inside_first n) st r.0 r.1,
        gives-map (λ s here. FoundAll g order (goals_of rest (rest_of n)) s here) (λ s here. FoundIn g order rest (rest_of n) s here) (λ s here k. of-goals rest (rest_of n) s here k) r.0 outs r.2,
      )

  -- one goal
  pub one-goal : (p : Pattern) (a : Applied) (st : MatchState) (outs : List MatchState) → FoundAll g order ((p, a) ∷ []) st outs ↔ Found g order p st a outs
  one-goal p a st outs = (λ f. subst (Found g order p st a) (sym (of-itself f.0 outs f.2)) f.1, λ f. (outs, f, gives-itself outs))

  -- a node in front
  node-first : (args : PatternArgs) (op : ℕ) (payloads : List (List ℕ)) (a : Applied) (goals : List (Pattern × Applied)) (st : MatchState) (r : Row) (here : List MatchState) →
      (m : List MatchState) × AtRow g op payloads args st a (λ n s outs. FoundIn g order args n s outs) r m × Gives (λ s outs. FoundAll g order goals s outs) m here →
      AtRow g op payloads args st a (λ n s outs. FoundAll g order (goals_of args n ++ goals) s outs) r here
  node-first args op payloads a goals st r here (m, inl k, h) = inl (k.0, subst (λ l. Gives (λ s outs. FoundAll g order goals s outs) l here) k.1 h)
  node-first args op payloads a goals st r here (m, inr k, h) = inr (k.0, k.1, k.2, go k.0 (walked args k.0 st.pairs) k.3)
    where
      go : (n : NodeArgs) (o : Option (List (ℕ × ℕ))) → IfThere o (λ pairs. FoundIn g order args n (after_walk st n pairs) m) (m ≡ []) →
          IfThere o (λ pairs. FoundAll g order (goals_of args n ++ goals) (after_walk st n pairs) here) (here ≡ [])
      go n None e = subst (λ l. Gives (λ s outs. FoundAll g order goals s outs) l here) e h
      go n (Some pairs) f = all-append (goals_of args n) goals (after_walk st n pairs) m here (in-goals args n (after_walk st n pairs) m f) h

  of-node-first : (args : PatternArgs) (op : ℕ) (payloads : List (List ℕ)) (a : Applied) (goals : List (Pattern × Applied)) (st : MatchState) (r : Row) (here : List MatchState) →
      AtRow g op payloads args st a (λ n s outs. FoundAll g order (goals_of args n ++ goals) s outs) r here →
      (m : List MatchState) × AtRow g op payloads args st a (λ n s outs. FoundIn g order args n s outs) r m × Gives (λ s outs. FoundAll g order goals s outs) m here
  of-node-first args op payloads a goals st r here (inl k) = ([], inl (k.0, refl), k.1)
  of-node-first args op payloads a goals st r here (inr k) =
      let q = go k.0 (walked args k.0 st.pairs) k.3 in
      (q.0, inr (k.0, k.1, k.2, q.1), q.2)
    where
      go : (n : NodeArgs) (o : Option (List (ℕ × ℕ))) → IfThere o (λ pairs. FoundAll g order (goals_of args n ++ goals) (after_walk st n pairs) here) (here ≡ []) →
          (m : List MatchState) × IfThere o (λ pairs. FoundIn g order args n (after_walk st n pairs) m) (m ≡ []) × Gives (λ s outs. FoundAll g order goals s outs) m here
      go n None e = ([], refl, e)
      go n (Some pairs) f =
          let q = of-all-append (goals_of args n) goals (after_walk st n pairs) here f in
          (q.0, of-goals args n (after_walk st n pairs) q.0 q.1, q.2)

  pub node-goal : (op : ℕ) (payloads : List (List ℕ)) (args : PatternArgs) (a : Applied) (goals : List (Pattern × Applied)) (st : MatchState) (outs : List MatchState) →
      FoundAll g order ((pattern_node op payloads args, a) ∷ goals) st outs ↔
      Gives (λ r here. AtRow g op payloads args st a (λ n s then. FoundAll g order (goals_of args n ++ goals) s then) r here) order outs
  node-goal op payloads args a goals st outs = (
    λ f.
        gives-map (λ r here. (m : List MatchState) × AtRow g op payloads args st a (λ n s then. FoundIn g order args n s then) r m × Gives (λ s then. FoundAll g order goals s then) m here)
        (λ r here. AtRow g op payloads args st a (λ n s then. FoundAll g order (goals_of args n ++ goals) s then) r here) (λ r here k. node-first args op payloads a goals st r here k) order outs
        (gives-then (λ r here. AtRow g op payloads args st a (λ n s then. FoundIn g order args n s then) r here) (λ s here. FoundAll g order goals s here) order f.0 outs f.1 f.2),
    λ f.
        of-then (λ r here. AtRow g op payloads args st a (λ n s then. FoundIn g order args n s then) r here) (λ s here. FoundAll g order goals s here) order outs
        (gives-map (λ r here. AtRow g op payloads args st a (λ n s then. FoundAll g order (goals_of args n ++ goals) s then) r here)
        (λ r here. (m : List MatchState) × AtRow g op payloads args st a (λ n s then. FoundIn g order args n s then) r m × Gives (λ s then. FoundAll g order goals s then) m here)
        (λ r here k. of-node-first args op payloads a goals st r here k) order outs f),
  )

  -- a variable in front: with its value, and then the rest
  pub variable-goal : (v : List ℕ) (a : Applied) (goals : List (Pattern × Applied)) (st : MatchState) (outs : List MatchState) →
      FoundAll g order ((variable v, a) ∷ goals) st outs ↔ Gives (λ s here. FoundAll g order goals s here) (with_value g (value_at st.values v) st v a) outs
  variable-goal v a goals st outs = (
    λ f. subst (λ l. Gives (λ s here. FoundAll g order goals s here) l outs) f.1 f.2,
    λ h. (with_value g (value_at st.values v) st v a, refl, h),
  )

  pub new-value : (v : List ℕ) (a : Applied) (goals : List (Pattern × Applied)) (st : MatchState) (outs : List MatchState) → value_at st.values v ≡ None →
      FoundAll g order ((variable v, a) ∷ goals) st outs ↔ FoundAll g order goals (record st { values = (v, a) ∷ st.values }) outs
  new-value v a goals st outs none =
      let next : MatchState = record st { values = (v, a) ∷ st.values } in
      let k = variable-goal v a goals st outs in
      let e : with_value g (value_at st.values v) st v a ≡ next ∷ [] = ap (λ o. with_value g o st v a) none in (
        λ f. of-one (λ s here. FoundAll g order goals s here) next outs (subst (λ l. Gives (λ s here. FoundAll g order goals s here) l outs) e (k.0 f)),
        λ h. k.1 (subst (λ l. Gives (λ s here. FoundAll g order goals s here) l outs) (sym e) (gives-one (λ s here. FoundAll g order goals s here) next outs h)),
      )

  pub same-value : (v : List ℕ) (a b : Applied) (goals : List (Pattern × Applied)) (st : MatchState) (outs : List MatchState) → value_at st.values v ≡ Some b → find g.found b ≡ find g.found a →
      FoundAll g order ((variable v, a) ∷ goals) st outs ↔ FoundAll g order goals st outs
  same-value v a b goals st outs some same =
      let k = variable-goal v a goals st outs in
      let yes : id_eq (find g.found b) (find g.found a) ≡ true = term_eq-same (as_term (find g.found b)) (as_term (find g.found a)) (ap as_term same) in
      let e : with_value g (value_at st.values v) st v a ≡ st ∷ [] = ap (λ o. with_value g o st v a) some ∙ ap (λ c. cond c (st ∷ []) []) yes in (
        λ f. of-one (λ s here. FoundAll g order goals s here) st outs (subst (λ l. Gives (λ s here. FoundAll g order goals s here) l outs) e (k.0 f)),
        λ h. k.1 (subst (λ l. Gives (λ s here. FoundAll g order goals s here) l outs) (sym e) (gives-one (λ s here. FoundAll g order goals s here) st outs h)),
      )

  pub other-value : (v : List ℕ) (a b : Applied) (goals : List (Pattern × Applied)) (st : MatchState) (outs : List MatchState) → value_at st.values v ≡ Some b → find g.found b ≢ find g.found a →
      FoundAll g order ((variable v, a) ∷ goals) st outs ↔ (outs ≡ [])
  other-value v a b goals st outs some differ =
      let k = variable-goal v a goals st outs in
      let no : id_eq (find g.found b) (find g.found a) ≡ false = not-alike in
      let e : with_value g (value_at st.values v) st v a ≡ [] = ap (λ o. with_value g o st v a) some ∙ ap (λ c. cond c (st ∷ []) []) no in (
        λ f. subst (λ l. Gives (λ s here. FoundAll g order goals s here) l outs) e (k.0 f),
        λ h. k.1 (subst (λ l. Gives (λ s here. FoundAll g order goals s here) l outs) (sym e) h),
      )
    where
      not-alike : id_eq (find g.found b) (find g.found a) ≡ false
      not-alike = elim (cases_Bool (id_eq (find g.found b) (find g.found a))) [
        | inl t ↦ absurd (differ (id_eq-same (find g.found b) (find g.found a) t))
        | inr f ↦ f
      ]

  -- nothing is found of a substitution
  pub replacing-goal : (body part value : Pattern) (a : Applied) (goals : List (Pattern × Applied)) (st : MatchState) (outs : List MatchState) →
      FoundAll g order ((replacing body part value, a) ∷ goals) st outs ↔ (outs ≡ [])
  replacing-goal body part value a goals st outs = (
    λ f. subst (λ l. Gives (λ s here. FoundAll g order goals s here) l outs) f.1 f.2,
    λ e. ([], refl, e),
  )

  pub goals-append : (goals more : List (Pattern × Applied)) (st : MatchState) (outs : List MatchState) →
      FoundAll g order (goals ++ more) st outs ↔ ((mid : List MatchState) × FoundAll g order goals st mid × Gives (λ s here. FoundAll g order more s here) mid outs)
  goals-append goals more st outs = (of-all-append goals more st outs, λ k. all-append goals more st k.0 outs k.1 k.2)

-- members of which nothing comes can be passed over: those that are kept give the same
pub kept-members : {A B : Type 0} (P : A → List B → Type 0) (keep : A → Bool) (xs : List A) (outs : List B) → ((x : A) → In x xs → keep x ≡ false → P x [] × ((here : List B) → P x here → here ≡ [])) →
    Gives P xs outs ↔ Gives P (filter keep xs) outs
kept-members P keep [] outs h = (λ k. k, λ k. k)
kept-members {A} {B} P keep (x ∷ xs) outs h = go (λ rest. kept-members P keep xs rest (λ y i. h y (inr i))) (keep x) refl
  where
    go : ((rest : List B) → Gives P xs rest ↔ Gives P (filter keep xs) rest) → (b : Bool) → keep x ≡ b → Gives P (x ∷ xs) outs ↔ Gives P (filter keep (x ∷ xs)) outs
    go others true e =
        let same : filter keep (x ∷ xs) ≡ x ∷ filter keep xs = ap (λ b. cond b (x ∷ filter keep xs) (filter keep xs)) e in (
          λ k. subst (λ l. Gives P l outs) (sym same) (k.0, k.1, k.2, k.3, (others k.1).0 k.4),
          λ k. let m : Gives P (x ∷ filter keep xs) outs = subst (λ l. Gives P l outs) same k in (m.0, m.1, m.2, m.3, (others m.1).1 m.4),
        )
    go others false e =
        let same : filter keep (x ∷ xs) ≡ filter keep xs = ap (λ b. cond b (x ∷ filter keep xs) (filter keep xs)) e in
        let n : P x [] × ((here : List B) → P x here → here ≡ []) = h x (inl refl) e in (
          λ k. subst (λ l. Gives P l outs) (sym same) ((others outs).0 (subst (Gives P xs) (sym (k.2 ∙ ap (λ l. l ++ k.1) (n.1 k.0 k.3))) k.4)),
          λ k. ([], outs, refl, n.0, (others outs).1 (subst (λ l. Gives P l outs) same k)),
        )

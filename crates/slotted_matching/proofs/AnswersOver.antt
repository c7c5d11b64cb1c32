-- Answers as ids that stand one after another.
use Rattle.std.proofs.Common.{◌≡◌, ℕ, zero, suc, ◌+◌, ◌*◌, ◌<◌, ◌≤◌, List, [], ◌∷◌, ◌++◌, length, take, drop, get_or, map, refl, sym, ap, subst, ◌∙◌, arith}
use Rattle.std.specs.Prelude.{Contains, String, string_bytes}
use Rattle.std.specs.declared.alloc.Global.{Global}
use Rattle.std.specs.List.{zip, AllByRecursion}
use Rattle.std.specs.BTreeMap.{BTreeMap, insert_entry}
use Rattle.std.specs.Map.{keys_of}
use Rattle.std.specs.declared.cmp.Ordering.{Ordering}
use Rattle.std.specs.declared.cmp.Ordering.TheVariants.{Less, Greater}
use Rattle.std.specs.Ordering.{match_ordering, ordering_reverse}
use Rattle.std.proofs.lemmas.Cmp.{nat_list_cmp_total}
use Rattle.std.proofs.lemmas.Map.Keys.{sorted_head, sorted_tail}
use Rattle.std.proofs.lemmas.List.{get_or-drop, get_or-take, drop-drop, length-take, length-drop, take_more, length-map, get_or-map, take-map, map-append}
use Rattle.std.proofs.lemmas.Slice.Zip.{get_or-zip, length-zip}
use Rattle.std.proofs.Math.Nat.{mul-le-mul_right}
use Rattle.slotted_model.specs.Applied.{Applied}
use Rattle.slotted_model_rules.specs.Conditions.{Values}
use Rattle.slotted_slots.specs.declared.types.AppliedId.{AppliedId}
use Rattle.slotted_proofs.specs.Equations.{to_applied}
use Rattle.slotted_rule_patterns.specs.Values.{values_of}
use Rattle.slotted_slots.proofs.SetLemmas.{IsStrictlySortedBy-nil}
use Rattle.slotted_matching.specs.Matches.{AreWhole, answers_over, name_order, AscendingNames}

pub length-answers_over : (vs : List (List ℕ)) (ids : List Applied) (n : ℕ) → length (answers_over vs ids n) ≡ n
length-answers_over vs ids zero = refl
length-answers_over vs ids (suc n) = let e : length (answers_over vs (drop (length vs) ids) n) ≡ n = length-answers_over vs (drop (length vs) ids) n in omega (arith, e)

-- where the ids of an answer stand
pub answer-at : (vs : List (List ℕ)) (ids : List Applied) (n a : ℕ) → a < n → get_or (answers_over vs ids n) a [] ≡ zip vs (take (length vs) (drop (a * length vs) ids))
answer-at vs ids zero a l = absurd (omega arith)
answer-at vs ids (suc n) zero l = let z : 0 * length vs ≡ 0 = omega arith in ap (λ k. zip vs (take (length vs) (drop k ids))) (sym z)
answer-at vs ids (suc n) (suc a) l =
    let e : length vs + a * length vs ≡ suc a * length vs = omega arith in
    answer-at vs (drop (length vs) ids) n a (omega arith)
    ∙ ap (λ xs. zip vs (take (length vs) xs)) (drop-drop (a * length vs) (length vs) ids ∙ ap (λ k. drop k ids) e)

-- so many ids stand before the end of an answer
pub within-ids : (n k m a : ℕ) → m ≡ n * k → a < n → a * k + k ≤ m
within-ids n k m a e l = let h : suc a * k ≤ n * k = mul-le-mul_right k (omega arith) in omega (arith, h, e)

length-part : (ids : List Applied) (n k a : ℕ) → length ids ≡ n * k → a < n → length (take k (drop (a * k) ids)) ≡ k
length-part ids n k a e l = let w : a * k + k ≤ length ids = within-ids n k (length ids) a e l in grind (arith, length-take, length-drop, w)

pub length-answer : (vs : List (List ℕ)) (ids : List Applied) (n a : ℕ) → length ids ≡ n * length vs → a < n → length (get_or (answers_over vs ids n) a []) ≡ length vs
length-answer vs ids n a e l =
    let t : length (take (length vs) (drop (a * length vs) ids)) ≡ length vs = length-part ids n (length vs) a e l in
    ap length (answer-at vs ids n a l) ∙ (length-zip vs (take (length vs) (drop (a * length vs) ids)) ∙ omega (arith, t))

-- an entry of an answer
pub entry-at : (vs : List (List ℕ)) (ids : List Applied) (n a i : ℕ) → length ids ≡ n * length vs → a < n → i < length vs →
    get_or (get_or (answers_over vs ids n) a []) i ([], (0, [])) ≡ (get_or vs i [], get_or ids (a * length vs + i) (0, []))
entry-at vs ids n a i e l h =
    let part = take (length vs) (drop (a * length vs) ids) in
    let t : length part ≡ length vs = length-part ids n (length vs) a e l in
    ap (λ (s : Values). get_or s i ([], (0, []))) (answer-at vs ids n a l)
    ∙ (get_or-zip vs part i ([], (0, [])) h (omega (arith, t, h))
    ∙ ap (λ (b : Applied). (get_or vs i [], b)) (get_or-take (length vs) (drop (a * length vs) ids) i (0, []) h ∙ get_or-drop (a * length vs) ids i (0, [])))

names-zip : (vs : List (List ℕ)) (bs : List Applied) → length bs ≡ length vs → map (λ (e : List ℕ × Applied). e.0) (zip vs bs) ≡ vs
names-zip [] bs e = refl
names-zip (v ∷ vs) [] e = absurd (omega (arith, e))
names-zip (v ∷ vs) (b ∷ bs) e = ap (λ l. v ∷ l) (names-zip vs bs (omega (arith, e)))

pub answer-names : (vs : List (List ℕ)) (ids : List Applied) (n a : ℕ) → length ids ≡ n * length vs → a < n →
    map (λ (e : List ℕ × Applied). e.0) (get_or (answers_over vs ids n) a []) ≡ vs
answer-names vs ids n a e l =
    ap (map (λ (p : List ℕ × Applied). p.0)) (answer-at vs ids n a l)
    ∙ names-zip vs (take (length vs) (drop (a * length vs) ids)) (length-part ids n (length vs) a e l)

-- each answer is over the variables
pub names-of_answer : (vs : List (List ℕ)) (ids : List Applied) (n : ℕ) → length ids ≡ n * length vs →
    (s : Values) → Contains (answers_over vs ids n) s → map (λ (e : List ℕ × Applied). e.0) s ≡ vs
names-of_answer vs ids n e s c =
    let l : c.0 < n = omega (arith, c.1, length-answers_over vs ids n) in
    ap (map (λ (p : List ℕ × Applied). p.0)) (sym (get_or_same (answers_over vs ids n) c.0 s [] c.1 c.2)) ∙ answer-names vs ids n c.0 e l
  where
    get_or_same : (xs : List Values) (k : ℕ) (x d : Values) → k < length xs → get_or xs k x ≡ x → get_or xs k d ≡ x
    get_or_same [] k x d l e = absurd (omega (arith, l))
    get_or_same (y ∷ xs) zero x d l e = e
    get_or_same (y ∷ xs) (suc k) x d l e = get_or_same xs k x d (omega (arith, l)) e

-- a key above all others goes last
insert-last : {K X : Type 0} (cmp : K → K → Ordering) (es : List (K × X)) (k : K) (v : X) → AllByRecursion (λ q. cmp k q ≡ Greater) (keys_of es) → insert_entry cmp es k v ≡ es ++ (k, v) ∷ []
insert-last cmp [] k v a = refl
insert-last cmp (e ∷ es) k v a =
    ap (λ o. match_ordering o ((k, v) ∷ e ∷ es) ((e.0, v) ∷ es) (e ∷ insert_entry cmp es k v)) a.0 ∙ ap (λ l. e ∷ l) (insert-last cmp es k v a.1)

-- the names before one are below it
above-all : (vs : List (List ℕ)) (i : ℕ) (d : List ℕ) → AscendingNames vs → i < length vs → AllByRecursion (λ q. name_order (get_or vs i d) q ≡ Greater) (take i vs)
above-all [] i d s l = absurd (omega (arith, l))
above-all (v ∷ vs) zero d s l = tt
above-all (v ∷ vs) (suc i) d s l = (later vs i (sorted_head name_order v vs s) (omega (arith, l)), above-all vs i d (sorted_tail name_order v vs s) (omega (arith, l)))
  where
    later : (ws : List (List ℕ)) (j : ℕ) → AllByRecursion (λ w. name_order v w ≡ Less) ws → j < length ws → name_order (get_or ws j d) v ≡ Greater
    later [] j a h = absurd (omega (arith, h))
    later (w ∷ ws) zero a h = nat_list_cmp_total.antisymm w v ∙ ap ordering_reverse a.0
    later (w ∷ ws) (suc j) a h = later ws j a.1 (omega (arith, h))

named-above : (k : String Global) (ks : List (String Global)) (bs : List (List ℕ)) → map string_bytes ks ≡ bs → AllByRecursion (λ q. name_order (string_bytes k) q ≡ Greater) bs →
    AllByRecursion (λ q. name_order (string_bytes k) (string_bytes q) ≡ Greater) ks
named-above k ks bs e a = go ks (subst (AllByRecursion (λ q. name_order (string_bytes k) q ≡ Greater)) (sym e) a)
  where
    go : (qs : List (String Global)) → AllByRecursion (λ q. name_order (string_bytes k) q ≡ Greater) (map string_bytes qs) →
        AllByRecursion (λ q. name_order (string_bytes k) (string_bytes q) ≡ Greater) qs
    go [] h = tt
    go (q ∷ qs) h = (h.0, go qs h.1)

names-entries : (es : List (String Global × AppliedId)) → map string_bytes (keys_of es) ≡ map (λ (p : List ℕ × Applied). p.0) (map (λ (e : String Global × AppliedId). (string_bytes e.0, to_applied e.1)) es)
names-entries [] = refl
names-entries (e ∷ es) = ap (λ l. string_bytes e.0 ∷ l) (names-entries es)

-- the next entry of an answer is put in
pub entry-put : (vs : List (List ℕ)) (s : Values) (i : ℕ) (old new : BTreeMap (String Global) AppliedId) (k : String Global) (v : AppliedId) →
    AscendingNames vs → map (λ (p : List ℕ × Applied). p.0) s ≡ vs → i < length s →
    values_of old ≡ take i s → (string_bytes k, to_applied v) ≡ get_or s i ([], (0, [])) →
    new.entries ≡ insert_entry (λ a b. name_order (string_bytes a) (string_bytes b)) old.entries k v →
    values_of new ≡ take (i + 1) s
entry-put vs s i old new k v ascends names l so_far next put =
    let cmp : String Global → String Global → Ordering = λ a b. name_order (string_bytes a) (string_bytes b) in
    let h : i < length vs = omega (arith, l, ap length (sym names) ∙ length-map s (λ (p : List ℕ × Applied). p.0)) in
    let n : string_bytes k ≡ get_or vs i [] =
    ap (λ (p : List ℕ × Applied). p.0) next ∙ (sym (get_or-map (λ (p : List ℕ × Applied). p.0) s i ([], (0, [])) [] l) ∙ ap (λ ws. get_or ws i []) names) in
    let before : map string_bytes (keys_of old.entries) ≡ take i vs =
    names-entries old.entries ∙ (ap (map (λ (p : List ℕ × Applied). p.0)) so_far ∙ (sym (take-map (λ (p : List ℕ × Applied). p.0) i s) ∙ ap (take i) names)) in
    let above : AllByRecursion (λ q. cmp k q ≡ Greater) (keys_of old.entries) =
    named-above k (keys_of old.entries) (take i vs) before
    (subst (λ b. AllByRecursion (λ q. name_order b q ≡ Greater) (take i vs)) (sym n) (above-all vs i [] ascends h)) in
    ap (map (λ (e : String Global × AppliedId). (string_bytes e.0, to_applied e.1))) (put ∙ insert-last cmp old.entries k v above)
    ∙ (map-append (λ (e : String Global × AppliedId). (string_bytes e.0, to_applied e.1)) old.entries ((k, v) ∷ [])
    ∙ ((λ j. so_far j ++ next j ∷ []) ∙ sym (take_more s i ([], (0, [])) l)))

pub no-answers : (vs : List (List ℕ)) (ids : List Applied) → vs ≡ [] → ids ≡ [] → AreWhole vs ids 0
no-answers vs ids v i = subst (λ us. AreWhole us ids 0) (sym v) (record { ascending = IsStrictlySortedBy-nil name_order; count = ap length i })

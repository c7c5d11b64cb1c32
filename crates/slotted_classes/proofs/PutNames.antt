-- Nodes with slots in the place of numbers. A shape with fresh slots for some of its numbers has that shape, and with slots for the numbers of all of
-- its free names it has these as its names.
use Rattle.std.proofs.Common.{◌≡◌, ◌≢◌, ◌≤◌, ◌+◌, ℕ, zero, suc, length-append, List, [], ◌∷◌, ◌++◌, Option, Some, None, length, map, cond, sym, ◌∙◌, ap, refl, subst, arith, inl, inr}
use Rattle.std.specs.Prelude.{slice_index, unwrap_or, ◌⊎◌}
use Rattle.std.proofs.lemmas.Bool.{cases_eq, eq-eqb, ne_eqb}
use Rattle.std.proofs.lemmas.List.{map-append}
use Rattle.slotted_lists.proofs.Members.{In, In-left, In-right, In-append}
use Rattle.slotted_lists.proofs.Maps.{keys-with_values}
use Rattle.slotted_theory.specs.Term.{Args, Term, done}
use Rattle.slotted_theory.specs.Term as term
use Rattle.slotted_theory.specs.Nameless.{DArgs, stop, place, sub, scope, nameless, moved}
use Rattle.slotted_theory.specs.Renaming.{IsInjective, renamed}
use Rattle.slotted_theory.specs.FiniteMaps.{HasValue, IsInjectiveMap, top, filled, with_values}
use Rattle.slotted_theory.proofs.Laws.{nameless-renamed}
use Rattle.slotted_theory.proofs.Filled.{filled-injective}
use Rattle.slotted_slots.specs.Maps.{keys, values, value_of}
use Rattle.slotted_slots.specs.Table.{numeric_slot, fresh_slot}
use Rattle.slotted_nodes.specs.Form.{Form}
use Rattle.slotted_languages.specs.NodeTerm.{node_term, nameless_node}
use Rattle.slotted_languages.specs.Shape.{Numbers, number_of, free_number, number_at, past_binder, numbered, no_numbers, names_in, with_names, shape, Fits}
use Rattle.slotted_languages.proofs.NodeTerms.{length-numbers}
use Rattle.slotted_languages.proofs.Shapes.{keys-shape, injective-shape, shape-renamed, shape-same}
use Rattle.slotted_languages.proofs.FirstPlaces.{free_in}
use Rattle.slotted_languages.proofs.RenamedNumbers.{node_args-map}
use Rattle.slotted_model.specs.Ascending.{ascending}
use Rattle.slotted_model.specs.Ascending as model
use Rattle.slotted_model.proofs.Data.Theory.{past, past-key, past-other, filled-past}
use Rattle.slotted_model.specs.Applied.{map_on}
use Rattle.slotted_model.proofs.Data.Sets.{IsAscending-ascending, In-ascending, In-of_ascending}
use Rattle.slotted_model.proofs.Data.Maps.{In-values, map_on-agrees, map_on-filled, filled-map_on, IsInjectiveMap-map_on}
use Rattle.slotted_classes.specs.Names.{put, with_put, IsNumeric}
use Rattle.slotted_proofs.proofs.Bridges.{ascends}

-- all names in a shape are numeric

abbrev pub AreNumeric : List ℕ → Type 0
AreNumeric xs = (x : ℕ) → In x xs → IsNumeric x

numeric_none : AreNumeric []
numeric_none x h = absurd h

numeric_cons : (x : ℕ) (xs : List ℕ) → IsNumeric x → AreNumeric xs → AreNumeric (x ∷ xs)
numeric_cons x xs p h y (inl e) = subst IsNumeric (sym e) p
numeric_cons x xs p h y (inr k) = h y k

numeric_append : (xs ys : List ℕ) → AreNumeric xs → AreNumeric ys → AreNumeric (xs ++ ys)
numeric_append xs ys h k x i = elim (In-append x xs ys i) [ inl a ↦ h x a | inr b ↦ k x b ]

numeric_keys : (m : List (ℕ × ℕ)) (n x : ℕ) → AreNumeric (keys m) → AreNumeric (keys (m ++ (numeric_slot n, x) ∷ []))
numeric_keys m n x h = subst AreNumeric (sym (map-append (λ (p : ℕ × ℕ). p.0) m ((numeric_slot n, x) ∷ []))) (numeric_append (keys m) (numeric_slot n ∷ []) h (numeric_cons (numeric_slot n) [] (n, refl) numeric_none))

-- numeric keys stay numeric, and give numeric numbers
numeric_free : (o : Option ℕ) (k : Numbers) (x : ℕ) → number_of k.free x ≡ o → AreNumeric (keys k.free) → IsNumeric (free_number o k x).0 × AreNumeric (keys (free_number o k x).1.free)
numeric_free (Some n) k x e h = (h n (free_in k.free x n e), h)
numeric_free None k x e h = ((k.next, refl), numeric_keys k.free k.next x h)

numeric_at : (ns : List ℕ) (k : Numbers) (x : ℕ) → AreNumeric ns → AreNumeric (keys k.free) → IsNumeric (number_at ns k x).0 × AreNumeric (keys (number_at ns k x).1.free)
numeric_at [] k x a h = numeric_free (number_of k.free x) k x refl h
numeric_at (n ∷ ns) k zero a h = (a n (inl refl), h)
numeric_at (n ∷ ns) k (suc x) a h = numeric_at ns k x (λ y i. a y (inr i)) h

numeric-numbered : (ns : List ℕ) (k : Numbers) (d : DArgs) → AreNumeric ns → AreNumeric (keys k.free) → AreNumeric (names_in (numbered ns k d).0) × AreNumeric (keys (numbered ns k d).1.free)
numeric-numbered ns k stop a h = (numeric_none, h)
numeric-numbered ns k (place x rest) a h =
    let p = numeric_at ns k x a h in
    let r = numeric-numbered ns (number_at ns k x).1 rest a p.1 in
    (numeric_cons (number_at ns k x).0 (names_in (numbered ns (number_at ns k x).1 rest).0) p.0 r.0, r.1)
numeric-numbered ns k (sub op payloads args rest) a h =
    let p = numeric-numbered ns k args a h in
    let r = numeric-numbered ns (numbered ns k args).1 rest a p.1 in
    (numeric_append (names_in (numbered ns k args).0) (names_in (numbered ns (numbered ns k args).1 rest).0) p.0 r.0, r.1)
numeric-numbered ns k (scope inner rest) a h =
    let n = numeric_slot k.next in
    let p = numeric-numbered (n ∷ ns) (past_binder k) inner (numeric_cons n ns (k.next, refl) a) h in
    let i = numbered (n ∷ ns) (past_binder k) inner in
    let r = numeric-numbered ns i.1 rest a p.1 in
    (numeric_cons n (names_in i.0 ++ names_in (numbered ns i.1 rest).0) (k.next, refl) (numeric_append (names_in i.0) (names_in (numbered ns i.1 rest).0) p.0 r.0), r.1)

pub numeric-shape : (f : Form) → AreNumeric (shape f).0.names × AreNumeric (keys (shape f).1)
numeric-shape f = numeric-numbered [] no_numbers (nameless_node f).args numeric_none numeric_none

pub length-shape : (f : Form) → Fits f → length (shape f).0.names ≡ length f.names
length-shape f h = length-numbers [] no_numbers (λ x. x) f.tree f.names h ∙ sym h

-- a node has no more free names than places

length-number_at : (ns : List ℕ) (k : Numbers) (x : ℕ) → length (number_at ns k x).1.free ≤ suc (length k.free)
length-number_at [] k x = one_more (number_of k.free x)
  where
    one_more : (o : Option ℕ) → length (free_number o k x).1.free ≤ suc (length k.free)
    one_more (Some n) = omega arith
    one_more None = omega (arith, length-append k.free ((numeric_slot k.next, x) ∷ []))
length-number_at (n ∷ ns) k zero = omega arith
length-number_at (n ∷ ns) k (suc x) = length-number_at ns k x

length-numbered : (ns : List ℕ) (k : Numbers) (a : DArgs) → length (numbered ns k a).1.free ≤ length k.free + length (names_in (numbered ns k a).0)
length-numbered ns k stop = omega arith
length-numbered ns k (place x rest) = omega (arith, length-number_at ns k x, length-numbered ns (number_at ns k x).1 rest)
length-numbered ns k (sub op payloads args rest) =
    let a = numbered ns k args in
    omega (arith, length-append (names_in a.0) (names_in (numbered ns a.1 rest).0), length-numbered ns k args, length-numbered ns a.1 rest)
length-numbered ns k (scope inner rest) =
    let i = numbered (numeric_slot k.next ∷ ns) (past_binder k) inner in
    omega (arith, length-append (names_in i.0) (names_in (numbered ns i.1 rest).0), length-numbered (numeric_slot k.next ∷ ns) (past_binder k) inner, length-numbered ns i.1 rest)

pub length-free : (f : Form) → Fits f → length (shape f).1 ≤ length f.names
length-free f h = omega (arith, length-shape f h, length-numbered [] no_numbers (nameless_node f).args)

-- renaming the places renames the term

head_map : (g : ℕ → ℕ) (xs : List ℕ) (n : ℕ) → length xs ≡ suc n → slice_index (map g xs) 0 ≡ g (slice_index xs 0)
head_map g [] n e = absurd (omega (arith, e))
head_map g (x ∷ xs) n e = refl

-- the nameless form of a node with other names at all places
pub nameless-renamed_node : (g : ℕ → ℕ) → IsInjective g → (f : Form) → Fits f → nameless_node (with_names f (map g f.names)) ≡ moved g (nameless_node f)
nameless-renamed_node g inj f h =
    let t : node_term (with_names f (map g f.names)) ≡ renamed g (node_term f) = λ i. record { op = suc f.operator; payloads = f.payloads; args = node_args-map g f.tree f.names h i } in
    ap nameless t ∙ nameless-renamed g inj (node_term f)

-- values of an injective map

value_has : (m : List (ℕ × ℕ)) (x v : ℕ) → value_of m x ≡ Some v → HasValue m v
value_has [] x v e = cc
value_has (p ∷ m) x v e = elim (cases_eq p.0 x) [
  | inl d ↦ let q : Some p.1 ≡ Some v = sym (ap (λ b. cond b (Some p.1) (value_of m x)) (eq-eqb p.0 x d)) ∙ e in let r : p.1 ≡ v = cc in inl (sym r)
  | inr d ↦ inr (value_has m x v (sym (ap (λ b. cond b (Some p.1) (value_of m x)) (ne_eqb p.0 x d)) ∙ e))
]

-- what is put in is a value of the map, and what stays is numeric
pub put_own : (slots : List (ℕ × ℕ)) (xs : List ℕ) → AreNumeric xs → (x : ℕ) → In x (map (put slots) xs) → In x (values slots) ⊎ IsNumeric x
put_own slots [] a x h = absurd h
put_own slots (y ∷ xs) a x (inr h) = put_own slots xs (λ z i. a z (inr i)) x h
put_own slots (y ∷ xs) a x (inl e) = subst (λ z. In z (values slots) ⊎ IsNumeric z) (sym e) (by (value_of slots y) refl)
  where
    by : (o : Option ℕ) → value_of slots y ≡ o → In (unwrap_or o y) (values slots) ⊎ IsNumeric (unwrap_or o y)
    by None q = inr (a y (inl refl))
    by (Some v) q = inl (In-values slots v (value_has slots y v q))

value_here : (p : ℕ × ℕ) (m : List (ℕ × ℕ)) (x v : ℕ) → p.0 ≡ x → value_of (p ∷ m) x ≡ Some v → p.1 ≡ v
value_here p m x v d e = let q : Some p.1 ≡ Some v = sym (ap (λ b. cond b (Some p.1) (value_of m x)) (eq-eqb p.0 x d)) ∙ e in cc

value_later : (p : ℕ × ℕ) (m : List (ℕ × ℕ)) (x v : ℕ) → p.0 ≢ x → value_of (p ∷ m) x ≡ Some v → value_of m x ≡ Some v
value_later p m x v d e = sym (ap (λ b. cond b (Some p.1) (value_of m x)) (ne_eqb p.0 x d)) ∙ e

value_one : (m : List (ℕ × ℕ)) → IsInjectiveMap m → (x y v : ℕ) → value_of m x ≡ Some v → value_of m y ≡ Some v → x ≡ y
value_one [] i x y v e d = cc
value_one (p ∷ m) i x y v e d = elim (cases_eq p.0 x) [
  | inl a ↦ elim (cases_eq p.0 y) [
    | inl b ↦ sym a ∙ b
    | inr b ↦ absurd (i.0 (subst (HasValue m) (sym (value_here p m x v a e)) (value_has m y v (value_later p m y v b d))))
  ]
  | inr a ↦ elim (cases_eq p.0 y) [
    | inl b ↦ absurd (i.0 (subst (HasValue m) (sym (value_here p m y v b d)) (value_has m x v (value_later p m x v a e))))
    | inr b ↦ value_one m i.1 x y v (value_later p m x v a e) (value_later p m y v b d)
  ]
]

put_past : (t : ℕ) (m : List (ℕ × ℕ)) (k : ℕ) → In k (keys m) → put m k ≡ past t m k
put_past t [] k h = absurd h
put_past t (p ∷ m) k h = elim (cases_eq p.0 k) [
  | inl e ↦ ap (λ b. unwrap_or (cond b (Some p.1) (value_of m k)) k) (eq-eqb p.0 k e) ∙ sym (past-key t p m k (sym e))
  | inr n ↦ ap (λ b. unwrap_or (cond b (Some p.1) (value_of m k)) k) (ne_eqb p.0 k n) ∙ (put_past t m k (later h n) ∙ sym (past-other t p m k (λ e. n (sym e))))
]
  where
    later : In k (keys (p ∷ m)) → p.0 ≢ k → In k (keys m)
    later (inl e) n = absurd (n (sym e))
    later (inr i) n = i

-- at a key the two words for a map as a function agree
put-filled : (m : List (ℕ × ℕ)) (k : ℕ) → In k (keys m) → put m k ≡ filled m k
put-filled m k h = put_past (top m) m k h ∙ sym (filled-past m k)

map-agrees : (f g : ℕ → ℕ) (xs : List ℕ) → ((x : ℕ) → In x xs → f x ≡ g x) → map f xs ≡ map g xs
map-agrees f g [] e = refl
map-agrees f g (x ∷ xs) e = λ i. e x (inl refl) i ∷ map-agrees f g xs (λ y h. e y (inr h)) i

-- a map that an injective function does not tell from that of its keys has its keys as values
same_values : (F : ℕ → ℕ) → IsInjective F → (G : ℕ → ℕ) (m : List (ℕ × ℕ)) → map_on F (keys m) ≡ with_values F m → with_values G m ≡ map_on G (keys m)
same_values F inj G [] e = refl
same_values F inj G (p ∷ m) e =
    let h : ◌≡◌ {A = ℕ × ℕ} (p.0, F p.0) (p.0, F p.1) = cc in
    let t : map_on F (keys m) ≡ with_values F m = cc in
    let q : p.1 ≡ p.0 = sym (inj p.0 p.1 (ap (λ (x : ℕ × ℕ). x.1) h)) in
    λ i. (p.0, G (q i)) ∷ same_values F inj G m t i

-- at numbers slots are put in that are different from one another, and from the numbers that stay
abbrev pub IsPutApart : List (ℕ × ℕ) → Type 0
IsPutApart slots = (x y : ℕ) → IsNumeric x → IsNumeric y → put slots x ≡ put slots y → x ≡ y

-- as fresh slots are, each for one number
module _ (slots : List (ℕ × ℕ)) (once : (x y v : ℕ) → value_of slots x ≡ Some v → value_of slots y ≡ Some v → x ≡ y) (fresh : (v : ℕ) → In v (values slots) → (n : ℕ) × (v ≡ fresh_slot n)) where
  put_apart : (o p : Option ℕ) (x y : ℕ) → IsNumeric x → IsNumeric y → value_of slots x ≡ o → value_of slots y ≡ p → unwrap_or o x ≡ unwrap_or p y → x ≡ y
  put_apart None None x y a b c d e = e
  put_apart (Some v) None x y a b c d e =
      let n = fresh v (In-values slots v (value_has slots x v c)) in
      absurd (omega (arith, n.1, b.1, e))
  put_apart None (Some w) x y a b c d e =
      let n = fresh w (In-values slots w (value_has slots y w d)) in
      absurd (omega (arith, n.1, a.1, e))
  put_apart (Some v) (Some w) x y a b c d e = once x y v c (d ∙ ap Some (sym e))

  pub fresh-apart : IsPutApart slots
  fresh-apart x y a b e = put_apart (value_of slots x) (value_of slots y) x y a b refl refl e

module _ (f : Form) (hf : Fits f) (slots : List (ℕ × ℕ)) (numeric : AreNumeric (keys slots)) (apart : IsPutApart slots) where
  abbrev shaped : Form
  shaped = (shape f).0

  -- the names of the shape
  abbrev all : List ℕ
  all = ascending (shaped.names ++ keys slots)

  numeric_all : (x : ℕ) → In x all → IsNumeric x
  numeric_all x h = numeric_append shaped.names (keys slots) (numeric-shape f).0 numeric x (In-of_ascending x (shaped.names ++ keys slots) h)

  -- on these names the slots are put in by an injective function of all names
  abbrev pub putting : ℕ → ℕ
  putting = filled (map_on (put slots) all)

  pub putting-injective : IsInjective putting
  putting-injective =
      filled-injective (map_on (put slots) all)
      (IsInjectiveMap-map_on (put slots) all (λ x y hx hy e. apart x y (numeric_all x hx) (numeric_all y hy) e) (IsAscending-ascending (shaped.names ++ keys slots)))

  pub putting-put : (x : ℕ) → In x (shaped.names ++ keys slots) → putting x ≡ put slots x
  putting-put x h = filled-map_on (put slots) all x (In-ascending x (shaped.names ++ keys slots) h)

  pub fits_shape : Fits shaped
  fits_shape = length-shape f hf ∙ hf

  put_names : with_put slots shaped ≡ with_names shaped (map putting shaped.names)
  put_names = ap (with_names shaped) (map-agrees (put slots) putting shaped.names (λ x h. sym (putting-put x (In-left x shaped.names (keys slots) h))))

  pub putting-fits : Fits (with_put slots shaped)
  putting-fits = length-map_of (put slots) shaped.names ∙ fits_shape
    where
      length-map_of : (h : ℕ → ℕ) (xs : List ℕ) → length (map h xs) ≡ length xs
      length-map_of h [] = refl
      length-map_of h (x ∷ xs) = ap suc (length-map_of h xs)

  pub putting-moved : moved putting (nameless_node shaped) ≡ nameless_node (with_put slots shaped)
  putting-moved = sym (ap nameless_node put_names ∙ nameless-renamed_node putting putting-injective shaped fits_shape)

module _ (f : Form) (hf : Fits f) (slots : List (ℕ × ℕ)) (same_keys : keys slots ≡ keys (shape f).1) (inj : IsInjectiveMap slots) (fresh : (v : ℕ) → In v (values slots) → (n : ℕ) × (v ≡ fresh_slot n)) where
  numeric : AreNumeric (keys slots)
  numeric = subst AreNumeric (sym same_keys) (numeric-shape f).1

  apart : IsPutApart slots
  apart = fresh-apart slots (value_one slots inj) fresh

  abbrev s : Form
  s = (shape f).0

  abbrev g : ℕ → ℕ
  g = putting f hf slots numeric apart

  pub fits_put : Fits (with_put slots s)
  fits_put = putting-fits f hf slots numeric apart

  abbrev of_shape : ((shape s).0 ≡ (shape f).0) × ((shape f).1 ≡ with_values (filled (shape f).1) (shape s).1)
  of_shape = shape-same (filled (shape f).1) (filled-injective (shape f).1 (injective-shape f)) s f (shape-renamed f hf)

  abbrev of_put : ((shape s).0 ≡ (shape (with_put slots s)).0) × ((shape (with_put slots s)).1 ≡ with_values g (shape s).1)
  of_put = shape-same g (putting-injective f hf slots numeric apart) s (with_put slots s) (putting-moved f hf slots numeric apart)

  keys_same : keys (shape f).1 ≡ keys (shape s).1
  keys_same = ap keys of_shape.1 ∙ keys-with_values (filled (shape f).1) (shape s).1

  on_keys : map_on (filled (shape f).1) (keys (shape s).1) ≡ with_values (filled (shape f).1) (shape s).1
  on_keys =
      ap (map_on (filled (shape f).1)) (sym keys_same)
      ∙ (map_on-filled (shape f).1 (ascends (keys (shape f).1) (keys-shape f)) ∙ of_shape.1)

  slots_are : map_on g (keys slots) ≡ slots
  slots_are =
      map_on-agrees g (filled slots) (keys slots) (λ k h. putting-put f hf slots numeric apart k (In-right k s.names (keys slots) h) ∙ put-filled slots k h)
      ∙ map_on-filled slots (subst model.IsAscending (sym same_keys) (ascends (keys (shape f).1) (keys-shape f)))

  -- the shape with these slots for its numbers has the shape, and the slots as names
  pub shape-put : ((shape (with_put slots s)).0 ≡ s) × ((shape (with_put slots s)).1 ≡ slots)
  shape-put = (
    sym of_put.0 ∙ of_shape.0,
    of_put.1 ∙ (same_values (filled (shape f).1) (filled-injective (shape f).1 (injective-shape f)) g (shape s).1 on_keys
        ∙ (ap (map_on g) (sym keys_same ∙ sym same_keys) ∙ slots_are)),
  )

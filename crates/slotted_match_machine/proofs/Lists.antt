-- Lists member by member: what holds of each member and the one in its place.
use Rattle.std.proofs.Common.{◌≡◌, List, [], ◌∷◌, ◌++◌, length, map, Bool, true, false, sym, ◌∙◌, ap, refl, subst, inl, inr, arith}
use Rattle.std.specs.Prelude.{cond, filter, ◌&&◌}
use Rattle.std.specs.List.{zip, flat_map}
use Rattle.slotted_lists.proofs.Members.{In, In-left, In-right, In-append}
use Rattle.slotted_model_rules.specs.Matcher.{Gives}
use Rattle.slotted_match_machine.specs.Index.{OneByOne}

pub one_by_one-map : {A B C D : Type 0} (P : A → B → Type 0) (Q : C → D → Type 0) (h : A → C) (k : B → D) (xs : List A) (ys : List B) →
    ((x : A) (y : B) → In x xs → P x y → Q (h x) (k y)) → OneByOne P xs ys → OneByOne Q (map h xs) (map k ys)
one_by_one-map P Q h k [] [] f o = tt
one_by_one-map P Q h k [] (y ∷ ys) f o = absurd o
one_by_one-map P Q h k (x ∷ xs) [] f o = absurd o
one_by_one-map P Q h k (x ∷ xs) (y ∷ ys) f o = (f x y (inl refl) o.0, one_by_one-map P Q h k xs ys (λ u v i. f u v (inr i)) o.1)

pub one_by_one-weaker : {A B : Type 0} (P Q : A → B → Type 0) (xs : List A) (ys : List B) → ((x : A) (y : B) → P x y → Q x y) → OneByOne P xs ys → OneByOne Q xs ys
one_by_one-weaker P Q [] [] f o = tt
one_by_one-weaker P Q [] (y ∷ ys) f o = absurd o
one_by_one-weaker P Q (x ∷ xs) [] f o = absurd o
one_by_one-weaker P Q (x ∷ xs) (y ∷ ys) f o = (f x y o.0, one_by_one-weaker P Q xs ys f o.1)

pub one_by_one-both : {A B : Type 0} (P Q : A → B → Type 0) (xs : List A) (ys : List B) → OneByOne P xs ys → OneByOne Q xs ys → OneByOne (λ x y. P x y × Q x y) xs ys
one_by_one-both P Q [] [] o q = tt
one_by_one-both P Q [] (y ∷ ys) o q = absurd o
one_by_one-both P Q (x ∷ xs) [] o q = absurd o
one_by_one-both P Q (x ∷ xs) (y ∷ ys) o q = ((o.0, q.0), one_by_one-both P Q xs ys o.1 q.1)

pub one_by_one-append : {A B : Type 0} (P : A → B → Type 0) (xs us : List A) (ys vs : List B) → OneByOne P xs ys → OneByOne P us vs → OneByOne P (xs ++ us) (ys ++ vs)
one_by_one-append P [] us [] vs o q = q
one_by_one-append P [] us (y ∷ ys) vs o q = absurd o
one_by_one-append P (x ∷ xs) us [] vs o q = absurd o
one_by_one-append P (x ∷ xs) us (y ∷ ys) vs o q = (o.0, one_by_one-append P xs us ys vs o.1 q)

-- the parts of two lists that stand beside parts of a list
pub one_by_one-parts : {A B : Type 0} (P : A → B → Type 0) (xs : List A) (ys vs : List B) → OneByOne P xs (ys ++ vs) →
    (one : List A) × (two : List A) × (xs ≡ one ++ two) × OneByOne P one ys × OneByOne P two vs
one_by_one-parts P xs [] vs o = ([], xs, refl, tt, o)
one_by_one-parts P [] (y ∷ ys) vs o = absurd o
one_by_one-parts P (x ∷ xs) (y ∷ ys) vs o =
    let r = one_by_one-parts P xs ys vs o.1 in
    (x ∷ r.0, r.1, ap (λ l. x ∷ l) r.2, (o.0, r.3), r.4)

-- each member has one beside it
pub beside-left : {A B : Type 0} (P : A → B → Type 0) (xs : List A) (ys : List B) → OneByOne P xs ys → (x : A) → In x xs → (y : B) × In y ys × P x y
beside-left P [] ys o x i = absurd i
beside-left P (u ∷ xs) [] o x i = absurd o
beside-left P (u ∷ xs) (v ∷ ys) o x (inl e) = (v, inl refl, subst (λ z. P z v) (sym e) o.0)
beside-left P (u ∷ xs) (v ∷ ys) o x (inr i) = let r = beside-left P xs ys o.1 x i in (r.0, inr r.1, r.2)

pub beside-right : {A B : Type 0} (P : A → B → Type 0) (xs : List A) (ys : List B) → OneByOne P xs ys → (y : B) → In y ys → (x : A) × In x xs × P x y
beside-right P xs [] o y i = absurd i
beside-right P [] (v ∷ ys) o y i = absurd o
beside-right P (u ∷ xs) (v ∷ ys) o y (inl e) = (u, inl refl, subst (P u) (sym e) o.0)
beside-right P (u ∷ xs) (v ∷ ys) o y (inr i) = let r = beside-right P xs ys o.1 y i in (r.0, inr r.1, r.2)

-- lists of one length, pair by pair
pub zip-append : {A B : Type 0} (xs us : List A) (ys vs : List B) → length xs ≡ length ys → zip (xs ++ us) (ys ++ vs) ≡ zip xs ys ++ zip us vs
zip-append [] us [] vs e = refl
zip-append [] us (y ∷ ys) vs e = absurd (omega arith)
zip-append (x ∷ xs) us [] vs e = absurd (omega arith)
zip-append (x ∷ xs) us (y ∷ ys) vs e = ap (λ l. (x, y) ∷ l) (zip-append xs us ys vs (omega arith))

-- two tests one after another
pub filter-twice : {A : Type 0} (p q : A → Bool) (xs : List A) → filter (λ x. p x && q x) xs ≡ filter q (filter p xs)
filter-twice p q [] = refl
filter-twice p q (x ∷ xs) = go (p x) refl (filter-twice p q xs)
  where
    go : (b : Bool) → p x ≡ b → filter (λ y. p y && q y) xs ≡ filter q (filter p xs) → filter (λ y. p y && q y) (x ∷ xs) ≡ filter q (filter p (x ∷ xs))
    go true e rest =
        (λ i. cond (e i && q x) (x ∷ filter (λ y. p y && q y) xs) (filter (λ y. p y && q y) xs))
        ∙ ((λ i. cond (q x) (x ∷ rest i) (rest i)) ∙ sym (λ i. filter q (cond (e i) (x ∷ filter p xs) (filter p xs))))
    go false e rest =
        (λ i. cond (e i && q x) (x ∷ filter (λ y. p y && q y) xs) (filter (λ y. p y && q y) xs))
        ∙ (rest ∙ sym (λ i. filter q (cond (e i) (x ∷ filter p xs) (filter p xs))))

-- members of a list of lists
pub In-flat_map : {A B : Type 0} (f : A → List B) (xs : List A) (x : A) (y : B) → In x xs → In y (f x) → In y (flat_map f xs)
In-flat_map f [] x y i j = absurd i
In-flat_map f (u ∷ xs) x y (inl e) j = In-left y (f u) (flat_map f xs) (subst (λ z. In y (f z)) e j)
In-flat_map f (u ∷ xs) x y (inr i) j = In-right y (f u) (flat_map f xs) (In-flat_map f xs x y i j)

pub In-of_flat_map : {A B : Type 0} (f : A → List B) (xs : List A) (y : B) → In y (flat_map f xs) → (x : A) × In x xs × In y (f x)
In-of_flat_map f [] y i = absurd i
In-of_flat_map f (u ∷ xs) y i = elim (In-append y (f u) (flat_map f xs) i) [
  | inl j ↦ (u, inl refl, j)
  | inr j ↦ let r = In-of_flat_map f xs y j in (r.0, inr r.1, r.2)
]

-- what is given for the members that are kept stands one by one beside a list that has nothing for the others
pub gives-beside : {A B C D : Type 0} (P : A → List B → Type 0) (R : B → D → Type 0) (E : A → C → Type 0) (keep : A → Bool) (h : C → List D) (xs : List A) (ys : List C) → OneByOne E xs ys →
    ((x : A) (y : C) → In x xs → E x y → keep x ≡ true → (here : List B) × P x here × OneByOne R here (h y)) →
    ((x : A) (y : C) → In x xs → E x y → keep x ≡ false → h y ≡ []) →
    (outs : List B) × Gives P (filter keep xs) outs × OneByOne R outs (flat_map h ys)
gives-beside P R E keep h [] [] o kept others = ([], refl, tt)
gives-beside P R E keep h [] (y ∷ ys) o kept others = absurd o
gives-beside P R E keep h (x ∷ xs) [] o kept others = absurd o
gives-beside {A} {B} {C} {D} P R E keep h (x ∷ xs) (y ∷ ys) o kept others =
    go (gives-beside P R E keep h xs ys o.1 (λ u v i. kept u v (inr i)) (λ u v i. others u v (inr i))) (keep x) refl
  where
    go : ((outs : List B) × Gives P (filter keep xs) outs × OneByOne R outs (flat_map h ys)) → (b : Bool) → keep x ≡ b → (outs : List B) × Gives P (filter keep (x ∷ xs)) outs × OneByOne R outs (h y ++ flat_map h ys)
    go r true e =
        let a = kept x y (inl refl) o.0 e in (
          a.0 ++ r.0,
          subst (λ b. Gives P (cond b (x ∷ filter keep xs) (filter keep xs)) (a.0 ++ r.0)) (sym e) (a.0, r.0, refl, a.1, r.1),
          one_by_one-append R a.0 r.0 (h y) (flat_map h ys) a.2 r.2,
        )
    go r false e = (
      r.0,
      subst (λ b. Gives P (cond b (x ∷ filter keep xs) (filter keep xs)) r.0) (sym e) r.1,
      subst (λ l. OneByOne R r.0 (l ++ flat_map h ys)) (sym (others x y (inl refl) o.0 e)) r.2,
    )

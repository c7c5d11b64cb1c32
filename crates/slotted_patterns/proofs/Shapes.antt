-- The shape of each pattern over the shapes of those inside, and its head.
use Rattle.std.proofs.Common.{◌≡◌, ℕ, suc, List, [], ◌∷◌, ◌++◌, map, Vec, length, refl, sym, ap, ◌∙◌, Bool, true, nat_eq, ◌&&◌, rules, append_assoc, append-nil, fold}
use Rattle.std.specs.Hash as fed
use Rattle.std.specs.Hash.{HashWrites, fed_then}
use Rattle.std.specs.Prelude.{Box}
use Rattle.std.specs.declared.alloc.Global.{Global}
use Rattle.slotted_patterns.specs.Compared.{head_eq, head_input}
use Rattle.slotted_patterns.specs.Shape.{Shape, over, named, replaced, Shapes, none_left, one_and, Head, node, replacement, head, heads, heads_in, parts_of, shape, shape_count, shapes_in, shapes_of}
use Rattle.slotted_patterns.specs.declared.pattern.Pattern.{Pattern, ENode, Subst, the_lemmas}

module _ {L : Type 0} where
  pub shape-ENode : (n : L) (ps : Vec (Pattern L) Global) → shape (ENode n ps) ≡ over n (shapes_of (map shape ps.items))
  shape-ENode n ps = search (rules, the_lemmas)

  pub shape-Subst : (b x v : Box (Pattern L) Global) → shape (Subst b x v) ≡ replaced (shape b.value) (shape x.value) (shape v.value)
  shape-Subst b x v = search (rules, the_lemmas)

  pub count-shapes : (ps : List (Pattern L)) → shape_count (shapes_of (map shape ps)) ≡ length ps
  count-shapes [] = refl
  count-shapes (p ∷ ps) = ap suc (count-shapes ps)

  pub head-ENode : (p : Pattern L) (n : L) (ps : Vec (Pattern L) Global) → p ≡ ENode n ps → head (shape p) ≡ node n (length ps.items)
  head-ENode p n ps is = ap (λ q. head (shape q)) is ∙ (ap head (shape-ENode n ps) ∙ ap (node n) (count-shapes ps.items))

  -- two nodes that are equal have equal heads exactly if as many patterns stand under them
  pub same_counts : (E : L → L → Bool) (p q : Pattern L) (n m : L) (ps qs : Vec (Pattern L) Global) → p ≡ ENode n ps → q ≡ ENode m qs → (k j : ℕ) → k ≡ length ps.items → j ≡ length qs.items → E n m ≡ true → nat_eq k j ≡ head_eq E (head (shape p)) (head (shape q))
  same_counts E p q n m ps qs is also k j a b e =
      (λ i. nat_eq (a i) (b i))
      ∙ (sym (ap (λ z. z && nat_eq (length ps.items) (length qs.items)) e)
      ∙ (λ i. head_eq E (sym (head-ENode p n ps is) i) (sym (head-ENode q m qs also) i)))

module _ {N : Type 0} where
  shapes_in-of : (ss : List (Shape N)) → shapes_in (shapes_of ss) ≡ ss
  shapes_in-of [] = refl
  shapes_in-of (s ∷ ss) = ap (λ l. s ∷ l) (shapes_in-of ss)

  shapes_of-in : (row : Shapes N) → shapes_of (shapes_in row) ≡ row
  shapes_of-in none_left = refl
  shapes_of-in (one_and s rest) = ap (one_and s) (shapes_of-in rest)

  -- the heads of several shapes, one after another
  heads-append : (a b : List (Shape N)) → heads_in (shapes_of (a ++ b)) ≡ heads_in (shapes_of b) ++ heads_in (shapes_of a)
  heads-append [] b = sym (append-nil (heads_in (shapes_of b)))
  heads-append (s ∷ a) b = ap (λ l. l ++ heads s) (heads-append a b) ∙ append_assoc (heads_in (shapes_of b)) (heads_in (shapes_of a)) (heads s)

  pub heads-opened : (s : Shape N) → heads s ≡ head s ∷ heads_in (shapes_of (parts_of s))
  heads-opened (over n row) = ap (λ r. node n (shape_count row) ∷ heads_in r) (sym (shapes_of-in row))
  heads-opened (named v) = refl
  heads-opened (replaced b x t) = ap (λ l. replacement ∷ l) (sym (append_assoc (heads t) (heads x) (heads b)))

  -- the last of some shapes gives way to its parts
  heads-step : (rest : List (Shape N)) (s : Shape N) → heads_in (shapes_of (rest ++ s ∷ [])) ≡ head s ∷ heads_in (shapes_of (rest ++ parts_of s))
  heads-step rest s =
      heads-append rest (s ∷ []) ∙ (ap (λ l. l ++ heads_in (shapes_of rest)) (heads-opened s) ∙ ap (λ l. head s ∷ l) (sym (heads-append rest (parts_of s))))

  -- where its head was found, the list goes on with the parts of the shape
  pub heads-walk : (found now : List (Head N)) (rest left next : List (Shape N)) (all : List (Head N)) (s : Shape N) → left ≡ rest ++ s ∷ [] → next ≡ rest ++ parts_of s → now ≡ found ++ head s ∷ [] → found ++ heads_in (shapes_of left) ≡ all → now ++ heads_in (shapes_of next) ≡ all
  heads-walk found now rest left next all s last opens more before =
      (λ i. more i ++ heads_in (shapes_of (opens i)))
      ∙ (append_assoc found (head s ∷ []) (heads_in (shapes_of (rest ++ parts_of s)))
      ∙ (ap (λ l. found ++ l) (sym (ap (λ l. heads_in (shapes_of l)) last ∙ heads-step rest s)) ∙ before))

module _ {L : Type 0} where
  pub shape_parts-ENode : (p : Pattern L) (n : L) (ps : Vec (Pattern L) Global) → p ≡ ENode n ps → parts_of (shape p) ≡ map shape ps.items
  shape_parts-ENode p n ps is = ap (λ q. parts_of (shape q)) is ∙ (ap parts_of (shape-ENode n ps) ∙ shapes_in-of (map shape ps.items))

  pub shape_parts-Subst : (p : Pattern L) (b x t : Box (Pattern L) Global) → p ≡ Subst b x t → parts_of (shape p) ≡ shape b.value ∷ shape x.value ∷ shape t.value ∷ []
  shape_parts-Subst p b x t is = ap (λ q. parts_of (shape q)) is ∙ ap parts_of (shape-Subst b x t)

-- a node feeds its sign, itself and how many patterns stand under it
pub fed_node : {L S : Type 0} (F : L → HashWrites) (write : S → List ℕ → S) (p : Pattern L) (n : L) (ps : Vec (Pattern L) Global) → p ≡ ENode n ps → (k : ℕ) → k ≡ length ps.items → (s t u v : S) → t ≡ fold write s (fed.u8 0) → u ≡ fold write t (F n) → v ≡ fold write u (fed.usize k) → v ≡ fold write s (head_input F (head (shape p)))
fed_node F write p n ps is k count s t u v a b c =
    fed_then write s t v (fed.u8 0) (F n ++ fed.usize k) a (fed_then write t u v (F n) (fed.usize k) b c)
    ∙ (λ i. fold write s (fed.u8 0 ++ (F n ++ fed.usize (count i))))
    ∙ ap (λ h. fold write s (head_input F h)) (sym (head-ENode p n ps is))

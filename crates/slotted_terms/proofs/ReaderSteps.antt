-- The steps of the reader of terms: its lists stand for open parts of a pattern, and read on as these do.
use Rattle.std.proofs.Common.{◌≡◌, ℕ, ◌+◌, ◌-◌, ◌<◌, ◌≤◌, Bool, true, false, List, [], ◌∷◌, ◌++◌, length, take, drop, get_or, refl, sym, subst, ap, ◌∙◌, arith, append_assoc, append-nil, true≢false}
use Rattle.std.specs.Prelude.{Option, Some, None, map, reverse, ◌==◌, IfSome, IfOk, OnOk, Result, Ok, Err}
use Rattle.slotted_slots.specs.declared.error.Error.{Error}
use Rattle.std.specs.declared.alloc.Global.{Global}
use Rattle.std.specs.declared.vec.Vec.{Vec}
use Rattle.std.proofs.lemmas.Bool.{eq-eqb}
use Rattle.std.proofs.lemmas.List.{map-append, length-map, reverse-append, take-append-drop, drop-map, drop_more}
use Rattle.slotted_theory.specs.Term.{Term}
use Rattle.slotted_slots.specs.Syntax.{Lexeme, word, slot, variable, colon_equals, left_paren, right_paren, left_bracket, right_bracket, Element, text, applied, name}
use Rattle.slotted_nodes.specs.Form.{Form, children}
use Rattle.slotted_languages.specs.Filled.{term_of}
use Rattle.slotted_patterns.specs.Tree.{PatternTree, enode, row_of}
use Rattle.slotted_patterns.specs.View.{tree_of}
use Rattle.slotted_patterns.specs.Parsed.{TokensRead}
use Rattle.slotted_patterns.specs.Parsed as parsing
use Rattle.slotted_patterns.specs.Grammar.{Reading, found, Bracket, joined, built, node, one_text, one_slot, one_child, begins_with_left_bracket, ReadsPattern, no_substitution}
use Rattle.slotted_patterns.specs.Stack.{Part, in_bracket, Continues, ReadsOpen}
use Rattle.slotted_patterns.specs.Shown.{total_width, width}
use Rattle.slotted_patterns.specs.ReadAgain.{HasNoText}
use Rattle.slotted_patterns.specs.declared.pattern.Pattern.{Pattern, ENode}
use Rattle.slotted_patterns.proofs.PatternTrees.{tree_of-ENode}
use Rattle.slotted_patterns.proofs.StackSteps.{reads_word, reads_begin, reads_slot, reads_end, reads_child, reads_no_bracket}
use Rattle.slotted_terms.specs.AsTerm.{over, in_front, as_term, as_terms}
use Rattle.slotted_terms.specs.Reader.{IsOpen, ReadsOn, AreNull, Reached, Leads, IsClosed, IsChild, IsReadAs, IsLastTerm, EndsInBracket, BeginsBracket, front, is_text}
use Rattle.slotted_terms.proofs.AsTerms.{counted}

pub on_ok : {A : Type 0} {P Q : Type 0} (r : Result A Error) → OnOk r P → (P → Q) → OnOk r Q
on_ok (Ok x) h f = f h
on_ok (Err e) h f = tt

pub if_some : {A : Type 0} {P Q : A → Type 0} (o : Option A) → IfSome o P → ((x : A) → P x → Q x) → IfSome o Q
if_some (Some x) h f = f x h
if_some None h f = tt

pub if_ok_some : {A : Type 0} {P Q : A → Type 0} (r : Result (Option A) Error) → IfOk r (λ o. IfSome o P) → ((x : A) → P x → Q x) → IfOk r (λ o. IfSome o Q)
if_ok_some (Ok o) h f = if_some o h f
if_ok_some (Err e) h f = tt

-- ---- elements

null-append : (xs ys : List Element) → AreNull xs → AreNull ys → AreNull (xs ++ ys)
null-append [] ys h k = k
null-append (text w ∷ xs) ys h k = null-append xs ys h k
null-append (name s ∷ xs) ys h k = null-append xs ys h k
null-append (applied i m ∷ xs) ys h k = (h.0, null-append xs ys h.1 k)

null-left : (xs ys : List Element) → AreNull (xs ++ ys) → AreNull xs
null-left [] ys h = tt
null-left (text w ∷ xs) ys h = null-left xs ys h
null-left (name s ∷ xs) ys h = null-left xs ys h
null-left (applied i m ∷ xs) ys h = (h.0, null-left xs ys h.1)

null-right : (xs ys : List Element) → AreNull (xs ++ ys) → AreNull ys
null-right [] ys h = h
null-right (text w ∷ xs) ys h = null-right xs ys h
null-right (name s ∷ xs) ys h = null-right xs ys h
null-right (applied i m ∷ xs) ys h = null-right xs ys h.1

-- the last of a list comes first
reverse-push : {A : Type 0} (xs : List A) (x : A) → reverse (xs ++ x ∷ []) ≡ x ∷ reverse xs
reverse-push xs x = reverse-append xs (x ∷ [])

reverse-more : {A : Type 0} (x : A) (xs ys : List A) → reverse (x ∷ xs) ++ ys ≡ reverse xs ++ (x ∷ ys)
reverse-more x xs ys = ap (λ l. l ++ ys) (reverse-append (x ∷ []) xs) ∙ append_assoc (reverse xs) (x ∷ []) ys

reverse-split : {A : Type 0} (xs : List A) (x : A) (ys : List A) → reverse (xs ++ x ∷ ys) ≡ reverse ys ++ (x ∷ reverse xs)
reverse-split xs x ys = reverse-append xs (x ∷ ys) ∙ reverse-more x ys (reverse xs)

-- the elements from the one before on
pub drop_before : {A B : Type 0} (f : A → B) (xs : List A) (k : ℕ) (x : A) → 0 < k → k ≤ length xs → x ≡ get_or xs (k - 1) x → drop (k - 1) (map f xs) ≡ f x ∷ drop k (map f xs)
drop_before f xs k x h w is =
    let next : (k - 1) + 1 ≡ k = omega (arith, h) in
    drop-map f (k - 1) xs
    ∙ (ap (map f) (drop_more xs (k - 1) x (omega (arith, h, w)) ∙ (λ i. sym is i ∷ drop (next i) xs))
    ∙ ap (λ l. f x ∷ l) (sym (drop-map f k xs)))

pub ends_in_bracket : (es : List Element) (begin count : ℕ) (e : Element) (rest : List Element) → is_text e ≡ true → drop begin es ≡ e ∷ rest → HasNoText rest → total_width rest ≡ count → EndsInBracket es begin count
ends_in_bracket es begin count (text w) rest t d n k = record { operator = w; inner = rest; last = d; bare = n; width = k }
ends_in_bracket es begin count (name s) rest t d n k = absurd (true≢false (sym t))
ends_in_bracket es begin count (applied i m) rest t d n k = absurd (true≢false (sym t))

pub bare_before : (all : List Element) (e : Element) (rest : List Element) → is_text e ≡ false → all ≡ e ∷ rest → HasNoText rest → HasNoText all
bare_before all (text w) rest t d n = absurd (true≢false t)
bare_before all (name s) rest t d n = subst HasNoText (sym d) n
bare_before all (applied i m) rest t d n = subst HasNoText (sym d) n

pub width_before : (all : List Element) (e : Element) (rest : List Element) (count one : ℕ) → all ≡ e ∷ rest → total_width rest ≡ count → one ≡ width e → total_width all ≡ count + one
width_before all e rest count one d k w = omega (arith, ap total_width d, k, w)

-- ---- open brackets

joined-nil : (b : Bracket) → joined b (record { elements = []; children = [] }) ≡ b
joined-nil b = λ i. record { elements = append-nil b.elements i; children = append-nil b.children i }

joined-assoc : (a b c : Bracket) → joined (joined a b) c ≡ joined a (joined b c)
joined-assoc a b c = λ i. record { elements = append_assoc a.elements b.elements c.elements i; children = append_assoc a.children b.children c.children i }

-- a bracket with more of its elements, and the children in their places
more_open : (tail : List Element) (us : List PatternTree) (b : Bracket) (es : List Element) (ds : List PatternTree) (outer : List Part) → HasNoText tail → AreNull tail → total_width tail ≡ length us → IsOpen es ds (in_bracket b ∷ outer) → IsOpen (reverse tail ++ es) (reverse us ++ ds) (in_bracket (joined b (record { elements = tail; children = us })) ∷ outer)
more_open [] [] b es ds outer n z w h = subst (λ x. IsOpen es ds (in_bracket x ∷ outer)) (sym (joined-nil b)) h
more_open [] (u ∷ us) b es ds outer n z w h = absurd (omega (arith, w))
more_open (text t ∷ tail) us b es ds outer n z w h = absurd n
more_open (name s ∷ tail) us b es ds outer n z w h =
    let one = joined b (one_slot s) in
    let rest = more_open tail us one (name s ∷ es) ds outer n z (omega (arith, w)) (b, outer, h, refl) in
    let same = joined-assoc b (one_slot s) (record { elements = tail; children = us }) in
    subst (λ x. IsOpen (reverse (name s ∷ tail) ++ es) (reverse us ++ ds) (in_bracket x ∷ outer)) same
    (subst (λ l. IsOpen l (reverse us ++ ds) (in_bracket (joined one (record { elements = tail; children = us })) ∷ outer)) (sym (reverse-more (name s) tail es)) rest)
more_open (applied i m ∷ tail) [] b es ds outer n z w h = absurd (omega (arith, w))
more_open (applied i m ∷ tail) (u ∷ us) b es ds outer n z w h =
    let one = joined b (one_child u) in
    let rest = more_open tail us one (applied i m ∷ es) (u ∷ ds) outer n z.1 (omega (arith, w)) (b, outer, h, refl) in
    let same : joined one (record { elements = tail; children = us }) ≡ joined b (record { elements = applied i m ∷ tail; children = u ∷ us }) =
    joined-assoc b (one_child u) (record { elements = tail; children = us }) ∙ ap (λ e. joined b (record { elements = e ∷ tail; children = u ∷ us })) (sym z.0) in
    subst (λ x. IsOpen (reverse (applied i m ∷ tail) ++ es) (reverse (u ∷ us) ++ ds) (in_bracket x ∷ outer)) same
    (subst (λ l. IsOpen l (reverse (u ∷ us) ++ ds) (in_bracket (joined one (record { elements = tail; children = us })) ∷ outer)) (sym (reverse-more (applied i m) tail es))
    (subst (λ l. IsOpen (reverse tail ++ (applied i m ∷ es)) l (in_bracket (joined one (record { elements = tail; children = us })) ∷ outer)) (sym (reverse-more u us ds)) rest))

-- ---- terms and the patterns that they are

over-counted : (f : Form) (ts : List Term) → length ts ≡ length (children f.tree) → over f (Some ts) ≡ Some (term_of f ts)
over-counted f ts e = counted (length ts == length (children f.tree)) (term_of f ts) (eq-eqb (length ts) (length (children f.tree)) e)

as_terms-row : (ps : List PatternTree) (ts : List Term) → map as_term ps ≡ map Some ts → as_terms (row_of ps) ≡ Some ts
as_terms-row [] [] h = refl
as_terms-row [] (t ∷ ts) h = absurd (omega (arith, ap length h))
as_terms-row (p ∷ ps) [] h = absurd (omega (arith, ap length h))
as_terms-row (p ∷ ps) (t ∷ ts) h =
    let rest = as_terms-row ps ts (ap (drop 1) h) in
    let first : as_term p ≡ Some t = ap (λ l. head-or None l) h in
    λ i. in_front (first i) (rest i)
  where
    head-or : Option Term → List (Option Term) → Option Term
    head-or d [] = d
    head-or d (o ∷ os) = o

map-twice : {A B C : Type 0} (f : A → B) (g : B → C) (xs : List A) → map (λ x. g (f x)) xs ≡ map g (map f xs)
map-twice f g [] = refl
map-twice f g (x ∷ xs) = ap (λ l. g (f x) ∷ l) (map-twice f g xs)

module _ {L : Type 0} (form : L → Form) (read : List Element → Option Form) where
  -- what is read inside open brackets is read on from their lists, unless a substitution follows
  settled : (es : List Element) (ds : List PatternTree) (ls : List Lexeme) (r : Reading PatternTree) (parts : List Part) → begins_with_left_bracket ls ≡ false → IsOpen es ds parts → ReadsOpen read parts ls r → ReadsOn read es ds ls r
  settled [] ds ls r parts n o h = (parts, o, h)
  settled (text w ∷ es) ds ls r parts n o h = (parts, o, h)
  settled (name s ∷ es) ds ls r parts n o h = (parts, o, h)
  settled (applied i m ∷ es) [] ls r parts n o h = absurd o
  settled (applied i m ∷ es) (d ∷ ds) ls r parts n o h =
      (in_bracket o.0 ∷ o.1, o.2, reads_no_bracket read (in_bracket o.0 ∷ o.1) d ls r n (reads_child read o.0 o.1 d ls r (subst (λ p. ReadsOpen read p ls r) o.3 h)))

  abbrev trees : List (Pattern L) → List PatternTree
  trees ps = map (tree_of form) ps

  abbrev terms_as : List (Pattern L) → List (Option Term)
  terms_as ps = map (λ p. as_term (tree_of form p)) ps

  -- the beginning: nothing was read
  pub reached_nothing : (all : List Lexeme) → Reached form read all [] [] all
  reached_nothing all = record {
    nodes = [];
    terms = refl;
    null = tt;
    reads = λ r h. let d = subst (λ p. ReadsOpen read p all r) h.1.1 h.2 in subst (ReadsPattern read all) (sym d.2) d.1;
  }

  -- a bracket begins, or goes on with a slot
  pub leads_begin : (es : List Element) (ts : List Term) (w : List ℕ) (ls : List Lexeme) → Leads form read es ts (left_paren ∷ word w ∷ ls) (es ++ text w ∷ []) ts ls
  leads_begin es ts w ls all h = record {
    nodes = h.nodes;
    terms = h.terms;
    null = null-append es (text w ∷ []) h.null tt;
    reads = λ r k.
        let o = subst (λ l. ReadsOn read l (reverse (trees h.nodes)) ls r) (reverse-push es (text w)) k in
        h.reads r (settled (reverse es) (reverse (trees h.nodes)) (left_paren ∷ word w ∷ ls) r o.1.0 refl o.1.1 (reads_begin read o.1.0 w ls r (subst (λ p. ReadsOpen read p ls r) o.1.2 o.2)));
  }

  pub leads_operator : (es es' : List Element) (ts : List Term) (l : Lexeme) (due next : Bool) → BeginsBracket es l es' next → due ≡ true → (ls : List Lexeme) → Leads form read es ts (front due (l ∷ ls)) es' ts (front next ls)
  leads_operator es es' ts (word w) due next h d ls all k =
      subst (λ b. Reached form read all es' ts (front b ls)) (sym h.1)
      (subst (λ l. Reached form read all l ts ls) (sym h.0) (leads_begin es ts w ls all (subst (λ b. Reached form read all es ts (front b (word w ∷ ls))) d k)))
  leads_operator es es' ts (slot x) due next h d ls all k = absurd h
  leads_operator es es' ts (variable v) due next h d ls all k = absurd h
  leads_operator es es' ts colon_equals due next h d ls all k = absurd h
  leads_operator es es' ts left_paren due next h d ls all k = absurd h
  leads_operator es es' ts right_paren due next h d ls all k = absurd h
  leads_operator es es' ts left_bracket due next h d ls all k = absurd h
  leads_operator es es' ts right_bracket due next h d ls all k = absurd h

  pub leads_slot : (es : List Element) (ts : List Term) (s : ℕ) (ls : List Lexeme) → Leads form read es ts (slot s ∷ ls) (es ++ name s ∷ []) ts ls
  leads_slot es ts s ls all h = record {
    nodes = h.nodes;
    terms = h.terms;
    null = null-append es (name s ∷ []) h.null tt;
    reads = λ r k.
        let o = subst (λ l. ReadsOn read l (reverse (trees h.nodes)) ls r) (reverse-push es (name s)) k in
        h.reads r (settled (reverse es) (reverse (trees h.nodes)) (slot s ∷ ls) r (in_bracket o.1.0 ∷ o.1.1) refl o.1.2 (reads_slot read o.1.0 o.1.1 s ls r (subst (λ p. ReadsOpen read p ls r) o.1.3 o.2)));
  }

  -- the pattern of a node over these patterns, which are as many as the terms of a list
  abbrev node_of : (n : L) (v : Vec Term Global) (us : List (Pattern L)) → length us ≡ length v.items → Pattern L
  node_of n v us e = ENode n (record { ptr = v.ptr; len = v.len; cap = v.cap; alloc = v.alloc; items = us; ok = (v.ok.0 ∙ sym e, v.ok.1); small = v.small })

  node_of-tree : (n : L) (v : Vec Term Global) (us : List (Pattern L)) (e : length us ≡ length v.items) → tree_of form (node_of n v us e) ≡ enode (form n) (row_of (trees us))
  node_of-tree n v us e = tree_of-ENode form n _

  node_of-term : (n : L) (v : Vec Term Global) (us : List (Pattern L)) (e : length us ≡ length v.items) → terms_as us ≡ map Some v.items → length v.items ≡ length (children (form n).tree) → as_term (tree_of form (node_of n v us e)) ≡ Some (term_of (form n) v.items)
  node_of-term n v us e h k =
      ap as_term (node_of-tree n v us e) ∙ (ap (over (form n)) (as_terms-row (trees us) v.items (sym (map-twice (tree_of form) as_term us) ∙ h)) ∙ over-counted (form n) v.items k)

  -- a word alone
  pub leads_word : (es : List Element) (ts ts' : List Term) (w : List ℕ) (n : L) (v : Vec Term Global) (ls : List Lexeme) → read (text w ∷ []) ≡ Some (form n) → v.items ≡ [] → length (children (form n).tree) ≡ 0 → ts' ≡ ts ++ term_of (form n) v.items ∷ [] → Leads form read es ts (word w ∷ ls) (es ++ applied 0 [] ∷ []) ts' ls
  leads_word es ts ts' w n v ls is none few more all h =
      let p = node_of n v [] (sym (ap length none)) in
      let tree : tree_of form p ≡ enode (form n) (row_of []) = node_of-tree n v [] (sym (ap length none)) in
      let term = node_of-term n v [] (sym (ap length none)) (ap (map Some) (sym none)) (ap length none ∙ sym few) in
      record {
        nodes = h.nodes ++ p ∷ [];
        terms = map-append (λ q. as_term (tree_of form q)) h.nodes (p ∷ []) ∙ ((λ i. h.terms i ++ term i ∷ []) ∙ (sym (map-append Some ts (term_of (form n) v.items ∷ [])) ∙ ap (map Some) (sym more)));
        null = null-append es (applied 0 [] ∷ []) h.null (refl, tt);
        reads = λ r k.
            let o = subst (λ l. ReadsOn read l (tree_of form p ∷ reverse (trees h.nodes)) ls r) (reverse-push es (applied 0 [])) (subst (λ l. ReadsOn read (reverse (es ++ applied 0 [] ∷ [])) l ls r) (ap reverse (map-append (tree_of form) h.nodes (p ∷ [])) ∙ reverse-push (trees h.nodes) (tree_of form p)) k) in
            let made : node read (found (one_text w) ls) ≡ found (tree_of form p) ls = ap (λ x. built x (one_text w) ls) is ∙ ap (λ t. found t ls) (sym tree) in
            h.reads r (settled (reverse es) (reverse (trees h.nodes)) (word w ∷ ls) r o.0 refl o.1 (reads_word read o.0 w ls r (subst (λ x. Continues read o.0 x r) (sym made) o.2)));
      }

  -- the patterns of terms that stand in two parts
  record Parts (ps : List (Pattern L)) (ts us : List Term) : Type 0 where
    left : List (Pattern L)
    right : List (Pattern L)
    whole : ps ≡ left ++ right
    first : terms_as left ≡ map Some ts
    second : terms_as right ≡ map Some us

  split_parts : (ps : List (Pattern L)) (ts us : List Term) → terms_as ps ≡ map Some (ts ++ us) → Parts ps ts us
  split_parts ps [] us h = record { left = []; right = ps; whole = refl; first = refl; second = h }
  split_parts [] (t ∷ ts) us h = absurd (omega (arith, ap length h))
  split_parts (p ∷ ps) (t ∷ ts) us h =
      let more = split_parts ps ts us (ap (drop 1) h) in
      record {
        left = p ∷ more.left;
        right = more.right;
        whole = ap (λ l. p ∷ l) more.whole;
        first = λ i. head-or (Some t) (h i) ∷ more.first i;
        second = more.second;
      }
    where
      head-or : Option Term → List (Option Term) → Option Term
      head-or d [] = d
      head-or d (o ∷ os) = o

  -- the end of a bracket
  pub leads_end : (es : List Element) (ts ts' : List Term) (begin count : ℕ) (n : L) (ls : List Lexeme) → EndsInBracket es begin count → read (drop begin es) ≡ Some (form n) → length (children (form n).tree) ≡ count → IsClosed (form n) ts ts' → Leads form read es ts (right_paren ∷ ls) (take begin es ++ applied 0 [] ∷ []) ts' ls
  leads_end es ts ts' begin count n ls ends is few closed all h =
      let w = ends.operator in
      let inner = ends.inner in
      let outer = take begin es in
      let v = closed.below in
      let whole : outer ++ (text w ∷ inner) ≡ es = ap (λ l. outer ++ l) (sym ends.last) ∙ take-append-drop begin es in
      let null = subst AreNull (sym whole) h.null in
      let s = split_parts h.nodes closed.others v.items (h.terms ∙ ap (map Some) closed.split) in
      let e : length s.right ≡ length v.items = sym (length-map s.right (λ q. as_term (tree_of form q))) ∙ (ap length s.second ∙ length-map v.items Some) in
      let p = node_of n v s.right e in
      let us = trees s.right in
      let tree : tree_of form p ≡ enode (form n) (row_of us) = node_of-tree n v s.right e in
      let term = node_of-term n v s.right e s.second closed.count in
      let wide : total_width inner ≡ length us = ends.width ∙ (sym few ∙ (sym closed.count ∙ (sym e ∙ sym (length-map s.right (tree_of form))))) in
      let before : reverse (trees h.nodes) ≡ reverse us ++ reverse (trees s.left) = ap reverse (ap trees s.whole ∙ map-append (tree_of form) s.left s.right) ∙ reverse-append (trees s.left) us in
      record {
        nodes = s.left ++ p ∷ [];
        terms = map-append (λ q. as_term (tree_of form q)) s.left (p ∷ []) ∙ ((λ i. s.first i ++ term i ∷ []) ∙ (sym (map-append Some closed.others (term_of (form n) v.items ∷ [])) ∙ ap (map Some) (sym closed.whole)));
        null = null-append outer (applied 0 [] ∷ []) (null-left outer (text w ∷ inner) null) (refl, tt);
        reads = λ r k.
            let o = subst (λ l. ReadsOn read l (tree_of form p ∷ reverse (trees s.left)) ls r) (reverse-push outer (applied 0 [])) (subst (λ l. ReadsOn read (reverse (outer ++ applied 0 [] ∷ [])) l ls r) (ap reverse (map-append (tree_of form) s.left (p ∷ [])) ∙ reverse-push (trees s.left) (tree_of form p)) k) in
            let b : Bracket = record { elements = text w ∷ inner; children = us } in
            let made : node read (found b ls) ≡ found (tree_of form p) ls = ap (λ x. built x b ls) (ap read (sym ends.last) ∙ is) ∙ ap (λ t. found t ls) (sym tree) in
            let opened = more_open inner us (one_text w) (text w ∷ reverse outer) (reverse (trees s.left)) o.0 ends.bare (null-right outer (text w ∷ inner) null) wide (o.0, o.1, refl) in
            let ended = reads_end read b o.0 ls r (subst (λ x. Continues read o.0 x r) (sym made) o.2) in
            h.reads r (settled (reverse es) (reverse (trees h.nodes)) (right_paren ∷ ls) r (in_bracket b ∷ o.0) refl
            (subst (λ l. IsOpen l (reverse (trees h.nodes)) (in_bracket b ∷ o.0)) (sym (reverse-split outer (text w) inner) ∙ ap reverse whole)
            (subst (λ l. IsOpen (reverse inner ++ (text w ∷ reverse outer)) l (in_bracket b ∷ o.0)) (sym before) opened)) ended);
      }

  -- the end: one term is left, and its place
  pub reached_whole : (all : List Lexeme) (es : List Element) (t : Term) → IsChild es → Reached form read all es (t ∷ []) [] → IsReadAs form read all t
  reached_whole all (applied i m ∷ []) t c h = only h.nodes h.terms h.reads
    where
      only : (ps : List (Pattern L)) → terms_as ps ≡ Some t ∷ [] → ((r : Reading PatternTree) → ReadsOn read (applied i m ∷ []) (reverse (trees ps)) [] r → ReadsPattern read all r) → IsReadAs form read all t
      only [] e k = absurd (omega (arith, ap length e))
      only (p ∷ []) e k = record {
        nodes = p;
        reads = parsing.as_pattern (k (found (tree_of form p) []) ([], (refl, refl), (found (tree_of form p) [], no_substitution refl, refl)));
        term = ap (first-or None) e;
      }
        where
          first-or : Option Term → List (Option Term) → Option Term
          first-or d [] = d
          first-or d (o ∷ os) = o
      only (p ∷ q ∷ ps) e k = absurd (omega (arith, ap length e))
  reached_whole all [] t c h = absurd c
  reached_whole all (text w ∷ es) t c h = absurd c
  reached_whole all (name s ∷ es) t c h = absurd c
  reached_whole all (applied i m ∷ e ∷ es) t c h = absurd c

  -- the last token was read
  pub reached_last : (all : List Lexeme) (es : List Element) (ts : List Term) (due : Bool) (t : Term) → IsLastTerm due es ts t → Reached form read all es ts (front due []) → IsReadAs form read all t
  reached_last all es ts due t o h = reached_whole all es t o.place (subst (λ b. Reached form read all es (t ∷ []) (front b [])) o.begun (subst (λ l. Reached form read all es l (front due [])) o.only h))

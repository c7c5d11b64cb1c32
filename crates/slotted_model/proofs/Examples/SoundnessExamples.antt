-- Small unions, and what is found after them, computed.
use Rattle.std.proofs.Common.{◌≡◌, ℕ, zero, suc, ◌<◌, List, [], ◌∷◌, ◌++◌, refl, ap, arith, get_or}
use Rattle.std.specs.Prelude.{◌↔◌}
use Rattle.slotted_theory.specs.Nameless.{DTerm, stop, place}
use Rattle.slotted_theory.specs.Shape.{shape}
use Rattle.slotted_theory.specs.Derives.{Equal}
use Rattle.slotted_theory.proofs.Values.{node}
use Rattle.slotted_model.specs.Applied.{Applied}
use Rattle.slotted_model.specs.Classes.{canonical_node, term_of, IsFull}
use Rattle.slotted_model.specs.Growth.{IsNew, Added}
use Rattle.slotted_model.specs.Correspondence.{identity}
use Rattle.slotted_model.specs.Find.{Entry, find_class, find_map, used_slots, find}
use Rattle.slotted_model.specs.ProofList.{Equation, ProofEntry, explicit, reflexive, equation_of, equation_at, asserted, find_equation, entry_equation}
use Rattle.slotted_model.specs.Link.{CanEnter, IsLater, found_equation, with_link, reflexive_equation}
use Rattle.slotted_model.specs.Sound.{Sound, United}
use Rattle.slotted_model.specs.SoundnessClaims.{SoundnessLaws}
use Rattle.slotted_model.proofs.Represented.Growing.{added, Canonical-nil}
use Rattle.slotted_model.proofs.Correspondences.PartialInjections.{identity-partial}
use Rattle.slotted_model.proofs.Finds.FindProofs.{full-found_alike, exact-holds}
use Rattle.slotted_model.proofs.Finds.Keeping.{nothing-sound, new_class-sound, united}

-- the entry of a class that has not died, with these slots
abbrev alive : ℕ → List ℕ → ℕ → Entry
alive i slots proof = record { class = i; pairs = identity slots; proof = proof; died = 0 }

-- the words p and q are united
abbrev words : List DTerm
words = node 1 [] stop ∷ node 2 [] stop ∷ []

abbrev two_words : List Entry
two_words = alive 0 [] 0 ∷ alive 1 [] 1 ∷ []

abbrev word_equation : Equation
word_equation = equation_of (0, []) (1, [])

abbrev one_word : List Entry
one_word = with_link words two_words (found_equation words two_words word_equation) 2 0

words_apart : find two_words (0, []) ≡ find two_words (1, []) → ⊥
words_apart p = let e : ◌≡◌ {A = ℕ} 0 1 = ap (λ (a : Applied). a.0) p in omega arith

words_alike : find one_word (0, []) ≡ find one_word (1, [])
words_alike = refl

words_asserted : asserted words (record { equation = word_equation; step = explicit } ∷ []) ≡ (node 1 [] stop, node 2 [] stop) ∷ []
words_asserted = refl

-- the class 0 is f x y for the slots 0 and 1, the class 1 is app x y for the slots 2 and 3
abbrev nodes : List DTerm
nodes = node 3 [] (place 0 (place 1 stop)) ∷ node 4 [] (place 2 (place 3 stop)) ∷ []

abbrev before : List Entry
before = alive 0 (0 ∷ 1 ∷ []) 0 ∷ alive 1 (2 ∷ 3 ∷ []) 1 ∷ []

-- f 7 8 and app 7 8 are asserted equal, and then united
abbrev f_7_8 : Applied
f_7_8 = (0, (0, 7) ∷ (1, 8) ∷ [])

abbrev f_8_7 : Applied
f_8_7 = (0, (0, 8) ∷ (1, 7) ∷ [])

abbrev app_7_8 : Applied
app_7_8 = (1, (2, 7) ∷ (3, 8) ∷ [])

abbrev union_equation : Equation
union_equation = equation_of f_7_8 app_7_8

abbrev after : List Entry
after = with_link nodes before (found_equation nodes before union_equation) 2 0

-- the equation with names numbered from 0
union_asserted : asserted nodes (record { equation = union_equation; step = explicit } ∷ []) ≡ (node 3 [] (place 0 (place 1 stop)), node 4 [] (place 0 (place 1 stop))) ∷ []
union_asserted = refl

-- f leads to app, and its first slot is the first one of app
f_leads_to_app : find_class after 0 ≡ 1
f_leads_to_app = refl

slots_of_f : find_map after 0 ≡ (2, 0) ∷ (3, 1) ∷ []
slots_of_f = refl

used_of_f : used_slots after 0 ≡ 0 ∷ 1 ∷ []
used_of_f = refl

found_f : find after f_7_8 ≡ app_7_8
found_f = refl

sides_alike : find after f_7_8 ≡ find after app_7_8
sides_alike = refl

-- with the names the other way round it is not found alike
swapped : find after f_8_7 ≡ find after app_7_8 → ⊥
swapped p = let e : ◌≡◌ {A = ℕ} 8 7 = ap (λ (a : Applied). (get_or a.1 0 (0, 0)).1) p in omega arith

-- what the link says is what the union says
link_says : entry_equation nodes after 0 ≡ union_equation
link_says = refl

-- a chain of three classes: 0 leads to 1 by the first union, 1 to 2 by the second
abbrev chain_nodes : List DTerm
chain_nodes = nodes ++ node 5 [] (place 5 (place 4 stop)) ∷ []

abbrev chain : List Entry
chain = with_link chain_nodes (after ++ alive 2 (4 ∷ 5 ∷ []) 3 ∷ []) (equation_of app_7_8 (2, (4, 7) ∷ (5, 8) ∷ [])) 4 1

chain_of_f : find chain f_8_7 ≡ (2, (4, 8) ∷ (5, 7) ∷ [])
chain_of_f = refl

chain_says : find_equation chain_nodes chain 0 ≡ equation_of f_7_8 (2, (4, 7) ∷ (5, 8) ∷ [])
chain_says = refl

-- the graph of the two words, made class by class, and their union
p_is_new : IsNew [] (node 1 [] stop)
p_is_new = record { operator = omega arith; children = tt; shape_is_new = λ i l p. omega arith }

with_p : Added [] (node 1 [] stop ∷ []) (node 1 [] stop)
with_p = added [] (node 1 [] stop) Canonical-nil p_is_new

q_is_new : IsNew (node 1 [] stop ∷ []) (node 2 [] stop)
q_is_new = record { operator = omega arith; children = tt; shape_is_new = other }
  where
    other : (i : ℕ) → i < 1 → ¬ (shape (canonical_node (node 1 [] stop ∷ []) i) ≡ shape (node 2 [] stop))
    other zero l p = let e : ◌≡◌ {A = ℕ} 1 2 = ap (λ (t : DTerm). t.op) p in omega arith
    other (suc i) l p = omega arith

with_q : Added (node 1 [] stop ∷ []) words (node 2 [] stop)
with_q = added (node 1 [] stop ∷ []) (node 2 [] stop) with_p.canonical q_is_new

abbrev reflexive_proofs : List ProofEntry
reflexive_proofs = record { equation = reflexive_equation words 0; step = reflexive } ∷ record { equation = reflexive_equation words 1; step = reflexive } ∷ []

words_sound : Sound words two_words reflexive_proofs
words_sound =
    new_class-sound (node 1 [] stop ∷ []) words (alive 0 [] 0 ∷ []) (record { equation = reflexive_equation words 0; step = reflexive } ∷ [])
    (new_class-sound [] (node 1 [] stop ∷ []) [] [] nothing-sound with_p.canonical with_p.extends refl) with_q.canonical with_q.extends refl

abbrev assertion : ProofEntry
assertion = record { equation = word_equation; step = explicit }

p_full : IsFull words (0, [])
p_full = record { in_range = omega arith; slots = refl; injective = tt }

q_full : IsFull words (1, [])
q_full = record { in_range = omega arith; slots = refl; injective = tt }

-- two words of which nothing is asserted are found different, since they are
module _ (laws : SoundnessLaws) where
  words_differ : (find two_words (0, []) ≡ find two_words (1, [])) ↔ (term_of words (0, []) ≡ term_of words (1, []))
  words_differ = (laws.nothing_asserted_is_alpha words two_words reflexive_proofs words_sound refl).1 (0, []) (1, []) p_full q_full

can_assert : CanEnter words reflexive_proofs assertion
can_assert = record { over = record { left = omega arith; right = omega arith; pairs = identity-partial [] }; proved = tt; is_new = other }
  where
    other : (p : ℕ) → p < 2 → equation_at reflexive_proofs p ≡ word_equation → ⊥
    other zero l e = let n : ◌≡◌ {A = ℕ} 0 1 = ap (λ (x : Equation). x.right) e in omega arith
    other (suc zero) l e = let n : ◌≡◌ {A = ℕ} 1 0 = ap (λ (x : Equation). x.left) e in omega arith
    other (suc (suc p)) l e = omega arith

none_died : IsLater two_words 0
none_died zero l d = absurd (d refl)
none_died (suc zero) l d = absurd (d refl)
none_died (suc (suc i)) l d = absurd (omega arith)

words_united : United words two_words reflexive_proofs assertion 0 (0, []) (1, [])
words_united = united words two_words reflexive_proofs assertion 0 (0, []) (1, []) words_sound p_full q_full (λ e. omega arith) (λ x. (λ c. c, λ c. c)) refl can_assert none_died

-- so the terms are equal by what was asserted
words_equal : Equal ((node 1 [] stop, node 2 [] stop) ∷ []) (node 1 [] stop) (node 2 [] stop)
words_equal =
    let s : Sound words one_word (reflexive_proofs ++ assertion ∷ []) = words_united.sound in
    full-found_alike ((node 1 [] stop, node 2 [] stop) ∷ []) words one_word s.linked (exact-holds words s.canonical one_word (reflexive_proofs ++ assertion ∷ []) s.proved s.exact) (0, []) (1, []) p_full q_full refl

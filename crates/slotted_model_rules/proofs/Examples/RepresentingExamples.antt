-- What represents a body: with the pair of (app (var $5) (var $6)) and (var $6) an app of two names is represented by its second.
use Rattle.std.proofs.Common.{◌≡◌, ℕ, List, [], ◌∷◌, false, refl, inl, inr, arith}
use Rattle.std.specs.Prelude.{Contains, IsTrue}
use Rattle.slotted_lists.proofs.Contained.{contains_head, contains_tail}
use Rattle.slotted_theory.specs.Nameless.{DTerm, nameless, moved}
use Rattle.slotted_theory.specs.Renaming.{Bijection, swapped}
use Rattle.slotted_theory.proofs.Bijections.{to-injective, swap}
use Rattle.slotted_model.specs.Classes.{term_of}
use Rattle.slotted_model.proofs.Examples.CongruenceExample.{twice, id, id_full}
use Rattle.slotted_model.proofs.Represented.Fillings.{fills-itself}
use Rattle.slotted_model_rules.specs.Instances.{is_itself, IsAnswer}
use Rattle.slotted_model_rules.specs.Patterns.{Pattern, pattern_node, variable, replacing, no_argument}
use Rattle.slotted_model_rules.specs.Representing.{is_listed, represents}
use Rattle.slotted_model_rules.proofs.Laws.{pattern-laws, representing-laws}
use Rattle.slotted_model_rules.proofs.Examples.SubstitutionExamples.{var, app}

abbrev pairs : List (DTerm × DTerm)
pairs = (nameless (app (var 5) (var 6)), nameless (var 6)) ∷ []

-- so it is with other names
others_listed : IsTrue (is_listed pairs (nameless (app (var 8) (var 9))) (nameless (var 9)))
others_listed = refl

-- but not by the first, nor where the names are one
first_not_listed : is_listed pairs (nameless (app (var 8) (var 9))) (nameless (var 8)) ≡ false
first_not_listed = refl

one_name_not_listed : is_listed pairs (nameless (app (var 8) (var 8))) (nameless (var 8)) ≡ false
one_name_not_listed = refl

-- it is not listed for itself, and represents itself
itself_not_listed : is_listed pairs (nameless (app (var 8) (var 9))) (nameless (app (var 8) (var 9))) ≡ false
itself_not_listed = refl

itself_represents : IsTrue (represents pairs (nameless (app (var 8) (var 9))) (nameless (app (var 8) (var 9))))
itself_represents = (representing-laws.pairs_are_represented pairs).1 (nameless (app (var 8) (var 9)))

-- the pair itself is listed, and with 6 and 9 exchanged
pair_represents : IsTrue (represents pairs (nameless (app (var 5) (var 6))) (nameless (var 6)))
pair_represents =
    ((representing-laws.pairs_are_represented pairs).0 (nameless (app (var 5) (var 6))) (nameless (var 6))
    (contains_head (nameless (app (var 5) (var 6)), nameless (var 6)) [])).1

moved_represents : IsTrue (represents pairs (nameless (app (var 5) (var 9))) (nameless (var 9)))
moved_represents =
    (representing-laws.representing_moves_with_names pairs).1 (swapped 6 9) (to-injective (swap 6 9))
    (nameless (app (var 5) (var 6))) (nameless (var 6)) pair_represents

-- what is listed is a renamed pair, so the first of two names is none
is_renamed : (p : DTerm × DTerm) × Contains pairs p × (π : Bijection) ×
    (moved π.to p.0 ≡ nameless (app (var 8) (var 9))) × (moved π.to p.1 ≡ nameless (var 9))
is_renamed = (representing-laws.listed_are_renamed_pairs pairs (nameless (app (var 8) (var 9))) (nameless (var 9))).0 others_listed

-- with one more pair it is represented still
abbrev more : List (DTerm × DTerm)
more = (nameless (var 1), nameless (var 1)) ∷ pairs

more_represent : IsTrue (represents more (nameless (app (var 8) (var 9))) (nameless (var 9)))
more_represent =
    (representing-laws.more_pairs_represent_more pairs more (λ p c. contains_tail (nameless (var 1), nameless (var 1)) pairs p c)
    (nameless (app (var 8) (var 9))) (nameless (var 9))).1
    ((representing-laws.represented_are_listed pairs (nameless (app (var 8) (var 9))) (nameless (var 9))).1 (inl others_listed))

-- where n over n over a is represented by n over n over b, that is what is searched: with a for b it becomes n over n over a
abbrev word : ℕ → Pattern
word op = pattern_node op [] no_argument

abbrev body : Pattern
body = variable (98 ∷ [])

abbrev listed : List (DTerm × DTerm)
listed = (term_of twice.nodes (id 4), term_of twice.nodes (id 5)) ∷ []

is_answer : IsAnswer (is_listed listed) twice.nodes [] (λ v. id 4) (replacing body (word 2) (word 1)) (id 4)
is_answer =
    pattern-laws.replaced_are_instances (is_listed listed) twice.nodes [] (λ v. id 4) body (word 2) (word 1) (id 4) (id 1)
    (id 0) (id 4) (id 1) (id 0) (term_of twice.nodes (id 5)) (inl (98 ∷ [], refl, refl))
    (inr (id_full 1 (omega arith), (_, refl, refl))) (inr (id_full 0 (omega arith), (_, refl, refl)))
    (fills-itself twice.nodes [] (id 4) (id_full 4 (omega arith)))
    (fills-itself twice.nodes [] (id 1) (id_full 1 (omega arith)))
    (fills-itself twice.nodes [] (id 0) (id_full 0 (omega arith))) refl (id 4) (id_full 4 (omega arith)) refl

-- it is one still where each term represents itself besides
is_answer_still : IsAnswer (represents listed) twice.nodes [] (λ v. id 4) (replacing body (word 2) (word 1)) (id 4)
is_answer_still =
    (representing-laws.instances_stay_represented (is_listed listed) (represents listed)
    (λ u r t. (representing-laws.represented_are_listed listed u r).1 (inl t)) twice.nodes [] (λ v. id 4)).1
    (replacing body (word 2) (word 1)) (id 4) is_answer

-- and without a pair the test is whether the term is the same
alone : represents [] ≡ is_itself
alone = representing-laws.no_pairs_represent_terms

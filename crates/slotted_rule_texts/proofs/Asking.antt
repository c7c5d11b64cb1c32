-- What each part of a rule's text asks.
use Rattle.std.proofs.Common.{◌≡◌, List, [], ◌∷◌, ◌++◌, ℕ, refl, ap, sym, ◌∙◌, subst, append_assoc, append-nil, length, suc, map, rules}
use Rattle.std.proofs.lemmas.Bool.{true≢false}
use Rattle.std.proofs.lemmas.List.{map-append}
use borrow.Author.Tests.{tests}
use Rattle.std.specs.Prelude.{Bool, ◌==◌, Result, Ok, Err, IfErr, Option, Some, None, option_map, codes, true, false, if◌then◌else◌, ◌&&◌}
use Rattle.std.specs.Str.Pattern.{FindsText, IsSplitAtFirstMatch}
use Rattle.slotted_rule_texts.specs.Asked.{Condition, Sides, no_name, rule_by, named_asked, conditional_or, named_condition, condition_and, condition_by, condition_asked, each_asked, conditions_asked, sides_by, sides_asked, rule_of_parts, rule_asked}
use Rattle.slotted_rule_texts.specs.Told.{told_condition, IsRefused}
use Rattle.slotted_rule_texts.specs.declared.rule_text.SlotCondition.{SlotCondition}
use Rattle.slotted_rule_texts.specs.declared.rule_text.RuleText.{RuleText}
use Rattle.slotted_rule_texts.specs.declared.error.RuleTextError.{RuleTextError}
use Rattle.slotted_rule_texts.specs.declared.error.RuleTextError.TheVariants.{NoSign}
use Rattle.slotted_rule_texts.specs.Names.{is_name}
use Rattle.slotted_rule_texts.specs.Parts.{parts_around, pieces}
use Rattle.slotted_rule_texts.proofs.Splitting.{pieces_left, piece_first}

-- these conditions in front of the others, if there are others
abbrev pub all_behind : List Condition → Option (List Condition) → Option (List Condition)
all_behind cs o = option_map (λ ds. cs ++ ds) o

pub condition_is : (bs : List ℕ) → condition_by (parts_around (codes " not in ?") bs) (parts_around (codes " in ?") bs) ≡ condition_asked bs
unfolding condition_asked
condition_is bs = refl

pub conditions_are : (bs : List ℕ) → each_asked (pieces (codes " and $") bs) ≡ conditions_asked bs
unfolding conditions_asked
conditions_are bs = refl

pub sides_are : (bs : List ℕ) → sides_by (parts_around (codes " <=> ") bs) (parts_around (codes " => ") bs) ≡ sides_asked bs
unfolding sides_asked
sides_are bs = refl

pub rule_is : (bs : List ℕ) → rule_of_parts (parts_around (codes ": ") bs) ≡ rule_asked bs
unfolding rule_asked
rule_is bs = refl

pub condition_of_names : (slot variable : List ℕ) (occurs : Bool) → is_name slot ≡ true → is_name variable ≡ true → Some (record { slot = slot; variable = variable; occurs = occurs }) ≡ named_condition slot variable occurs
condition_of_names slot variable occurs s v =
    sym (λ i. if s i && v i then Some (record { slot = slot; variable = variable; occurs = occurs }) else None)

-- what the conditions of a text are while its pieces are read from the left

pub all_behind-none : (o : Option (List Condition)) → all_behind [] o ≡ o
all_behind-none None = refl
all_behind-none (Some ds) = refl

pub one_more : (cs : List Condition) (c : Condition) (o : Option (List Condition)) → all_behind cs (condition_and (Some c) o) ≡ all_behind (cs ++ c ∷ []) o
one_more cs c None = refl
one_more cs c (Some ds) = ap Some (sym (append_assoc cs (c ∷ []) ds))

pub all_read : (text : List ℕ) (cs : List Condition) (rest : List ℕ) (more : Bool) → more ≡ false → conditions_asked text ≡ all_behind cs (each_asked (pieces_left (codes " and $") more rest)) → conditions_asked text ≡ Some cs
all_read text cs rest more end asked = asked ∙ (ap (λ b. all_behind cs (each_asked (pieces_left (codes " and $") b rest))) end ∙ ap Some (append-nil cs))

pub begins : (text rest : List ℕ) (cs : List Condition) (more : Bool) → cs ≡ [] → more ≡ true → rest ≡ text → conditions_asked text ≡ all_behind cs (each_asked (pieces_left (codes " and $") more rest))
begins text rest cs more none more_is same =
    sym (conditions_are text) ∙ (sym (all_behind-none (each_asked (pieces (codes " and $") text)))
    ∙ sym (λ i. all_behind (none i) (each_asked (pieces_left (codes " and $") (more_is i) (same i)))))

pub stepped : (text s part rest sign : List ℕ) (more live : Bool) (cs : List Condition) → sign ≡ codes " and $" → more ≡ true → conditions_asked text ≡ all_behind cs (each_asked (pieces_left (codes " and $") more s)) → IsSplitAtFirstMatch (FindsText sign) s part live rest → conditions_asked text ≡ all_behind cs (condition_and (condition_asked part) (each_asked (pieces_left (codes " and $") live rest)))
stepped text s part rest sign more live cs is more_is asked cut =
    let here = subst (λ (w : List ℕ). IsSplitAtFirstMatch (FindsText w) s part live rest) is cut in
    let first = piece_first 32 (codes "and $") s part rest live here in
    asked ∙ (ap (λ b. all_behind cs (each_asked (pieces_left (codes " and $") b s))) more_is ∙ ap (λ ps. all_behind cs (each_asked ps)) first)

pub taken : (text : List ℕ) (old new : List SlotCondition) (x : SlotCondition) (r : Option Condition) (o : Option (List Condition)) → new ≡ old ++ x ∷ [] → Some (told_condition x) ≡ r → conditions_asked text ≡ all_behind (map told_condition old) (condition_and r o) → conditions_asked text ≡ all_behind (map told_condition new) o
taken text old new x r o pushed read asked =
    let told : map told_condition new ≡ map told_condition old ++ told_condition x ∷ [] = ap (map told_condition) pushed ∙ map-append told_condition old (x ∷ []) in
    asked ∙ (ap (λ q. all_behind (map told_condition old) (condition_and q o)) (sym read)
    ∙ (one_more (map told_condition old) (told_condition x) o ∙ ap (λ cs. all_behind cs o) (sym told)))

pub none_taken : (text : List ℕ) (cs : List Condition) (r : Option Condition) (o : Option (List Condition)) → None ≡ r → conditions_asked text ≡ all_behind cs (condition_and r o) → conditions_asked text ≡ None
none_taken text cs r o read asked = asked ∙ ap (λ q. all_behind cs (condition_and q o)) (sym read)

-- what a name asks with the text behind it

pub named_empty : (name bs : List ℕ) → (length name == 0) ≡ true → named_asked name bs ≡ no_name
unfolding named_asked
named_empty [] bs e = refl
named_empty (n ∷ ns) bs e = absurd (suc-not-zero ns e)
  where
    suc-not-zero : (xs : List ℕ) → (suc (length xs) == 0) ≡ true → ⊥
    suc-not-zero xs h = search (rules, tests)

pub named_some : (name bs : List ℕ) → (length name == 0) ≡ false → conditional_or name (parts_around (codes " if $") bs) bs ≡ named_asked name bs
unfolding named_asked
named_some [] bs e = absurd (true≢false e)
named_some (n ∷ ns) bs e = refl

-- two texts without a sign between them are refused, whatever the conditions are
pub sign_refused : (name : List ℕ) (o : Option Sides) (cs : Option (List Condition)) (r : Result RuleText RuleTextError) → IfErr r (λ e. (e ≡ NoSign) × (o ≡ None)) → IfErr r (IsRefused (rule_by name o cs))
sign_refused name o cs (Ok x) h = h
sign_refused name o cs (Err e) h = subst (IsRefused (rule_by name o cs)) (sym h.0) (ap (λ p. rule_by name p cs) h.1)

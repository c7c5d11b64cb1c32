-- What the text of a rule asks.
--     Condition, Rule       the parts of a condition, and those of a rule, as bytes
--     condition_asked bs    the condition of a text behind its `$`: two names with ` not in ?` or ` in ?` between
--     conditions_asked bs   the conditions of a text behind its first `$`, with ` and $` between
--     sides_asked bs        the two sides of a text, and whether ` <=> ` stands between them. It is looked for before ` => `
--     rule_asked bs         the rule of a text, or the first part from the left that is wrong
use Rattle.std.specs.Prelude.{ℕ, Bool, true, false, ◌&&◌, List, [], ◌∷◌, Option, Some, None, if◌then◌else◌, codes}
use Rattle.slotted_rule_texts.specs.Names.{is_name}
use Rattle.slotted_rule_texts.specs.Parts.{parts_around, pieces}

-- the slot has to occur in the value of the variable, or has not to
pub record Condition : Type 0 where
  pub slot : List ℕ
  pub variable : List ℕ
  pub occurs : Bool

-- the name, the texts of the sides, whether the rule goes both ways, and the conditions, all of which have to hold
pub record Rule : Type 0 where
  pub name : List ℕ
  pub left : List ℕ
  pub right : List ℕ
  pub both : Bool
  pub conditions : List Condition

-- a rule, or the part that is wrong
pub data RuleAsked : Type 0 where
  asks : (rule : Rule) → RuleAsked
  no_name : RuleAsked
  no_sign : RuleAsked
  no_condition : RuleAsked

-- the condition of two names
abbrev pub named_condition : List ℕ → List ℕ → Bool → Option Condition
named_condition slot variable occurs =
    if is_name slot && is_name variable then Some (record { slot = slot; variable = variable; occurs = occurs }) else None

-- the condition of what stands around ` not in ?`, or else around ` in ?`
abbrev pub condition_by : Option (List ℕ × List ℕ) → Option (List ℕ × List ℕ) → Option Condition
condition_by (Some names) _ = named_condition names.0 names.1 false
condition_by None (Some names) = named_condition names.0 names.1 true
condition_by None None = None

unfoldable pub condition_asked : List ℕ → Option Condition
condition_asked bs = condition_by (parts_around (codes " not in ?") bs) (parts_around (codes " in ?") bs)

-- these conditions in front of the others, if all are conditions
abbrev pub condition_and : Option Condition → Option (List Condition) → Option (List Condition)
condition_and (Some c) (Some cs) = Some (c ∷ cs)
condition_and (Some c) None = None
condition_and None _ = None

-- the conditions of texts, if each is one
abbrev pub each_asked : List (List ℕ) → Option (List Condition)
each_asked [] = Some []
each_asked (p ∷ ps) = condition_and (condition_asked p) (each_asked ps)

unfoldable pub conditions_asked : List ℕ → Option (List Condition)
conditions_asked bs = each_asked (pieces (codes " and $") bs)

-- two sides, and whether the rule goes both ways
pub record Sides : Type 0 where
  pub left : List ℕ
  pub right : List ℕ
  pub both : Bool

-- the sides around ` <=> `, or else around ` => `
abbrev pub sides_by : Option (List ℕ × List ℕ) → Option (List ℕ × List ℕ) → Option Sides
sides_by (Some p) _ = Some (record { left = p.0; right = p.1; both = true })
sides_by None (Some p) = Some (record { left = p.0; right = p.1; both = false })
sides_by None None = None

unfoldable pub sides_asked : List ℕ → Option Sides
sides_asked bs = sides_by (parts_around (codes " <=> ") bs) (parts_around (codes " => ") bs)

-- the rule of a name, two sides and conditions
abbrev pub rule_by : List ℕ → Option Sides → Option (List Condition) → RuleAsked
rule_by name (Some s) (Some cs) = asks (record { name = name; left = s.left; right = s.right; both = s.both; conditions = cs })
rule_by name (Some s) None = no_condition
rule_by name None _ = no_sign

-- the rule of a name and what stands around the first ` if $`, or else of the name and this text
abbrev pub conditional_or : List ℕ → Option (List ℕ × List ℕ) → List ℕ → RuleAsked
conditional_or name (Some p) bs = rule_by name (sides_asked p.0) (conditions_asked p.1)
conditional_or name None bs = rule_by name (sides_asked bs) (Some [])

-- the rule of a name and the text behind it
unfoldable pub named_asked : List ℕ → List ℕ → RuleAsked
named_asked [] bs = no_name
named_asked (n ∷ ns) bs = conditional_or (n ∷ ns) (parts_around (codes " if $") bs) bs

-- the rule of what stands around the first `: `
abbrev pub rule_of_parts : Option (List ℕ × List ℕ) → RuleAsked
rule_of_parts (Some p) = named_asked p.0 p.1
rule_of_parts None = no_name

unfoldable pub rule_asked : List ℕ → RuleAsked
rule_asked bs = rule_of_parts (parts_around (codes ": ") bs)

-- The order of owner faults, and the first of them.
use Rattle.std.specs.Prelude.{◌≡◌, ◌⊎◌, ◌+◌, ◌==◌, ◌&&◌, ◌||◌, not, ℕ, Bool, true, cond, List, [], ◌∷◌, Option, Some, None}
use Rattle.std.specs.Bool.{nat_lt}
use Rattle.std.specs.List.{list_all}
use Rattle.gql_text.specs.declared.owner_fault.OwnerFault.{OwnerFault}
use Rattle.gql_text.specs.declared.owner_fault.FaultKind.{FaultKind}
use Rattle.gql_text.specs.declared.owner_fault.FaultKind.TheVariants.{Duplicate, ReservedName, Unsupported}
use Rattle.gql_text_syntax.specs.declared.error.What.{What}
use Rattle.gql_text_syntax.specs.declared.error.What.TheVariants as what

-- the order of the forms that are not supported
abbrev pub form_rank : What → ℕ
form_rank what.Float = 0
form_rank what.Extend = 1
form_rank what.SecondSchema = 2
form_rank what.NoQuery = 3
form_rank what.SchemaDecoration = 4
form_rank what.SubscriptionDecoration = 5
form_rank what.Attribute = 6

-- the order of the kinds at one place: a name that repeats, a reserved name, and then forms that are not supported
abbrev pub rank : FaultKind → ℕ
rank (Duplicate name) = 0
rank (ReservedName name) = 1
rank (Unsupported form) = 2 + form_rank form

-- a lesser place, or the same place and an earlier kind
abbrev pub is_before : OwnerFault → OwnerFault → Bool
is_before a b = nat_lt a.at b.at || (a.at == b.at && nat_lt (rank a.kind) (rank b.kind))

-- none of these faults is before this one
abbrev pub none_before : OwnerFault → List OwnerFault → Bool
none_before fault faults = list_all (λ other. not (is_before other fault)) faults

-- The first of these faults; of two at one place and of one kind, the one that is listed first. It is the head, and none
-- of the others is before it; or it is before the head, and the first of the others.
abbrev pub IsFirst : OwnerFault → List OwnerFault → Type 0
IsFirst fault [] = ⊥
IsFirst fault (head ∷ others) = ((fault ≡ head) × (none_before fault others ≡ true)) ⊎ ((is_before fault head ≡ true) × IsFirst fault others)

-- the first fault, or nothing exactly where there is none
abbrev pub IsFirstOf : Option OwnerFault → List OwnerFault → Type 0
IsFirstOf None faults = faults ≡ []
IsFirstOf (Some fault) faults = IsFirst fault faults

-- ---- what the code keeps on its way

-- the first of the one that was found and of one more
abbrev pub earlier : Option OwnerFault → OwnerFault → OwnerFault
earlier None fault = fault
earlier (Some found) fault = cond (is_before fault found) fault found

-- the first of the one that was found and of these
abbrev pub first_after : Option OwnerFault → List OwnerFault → Option OwnerFault
first_after found [] = found
first_after found (fault ∷ faults) = first_after (Some (earlier found fault)) faults

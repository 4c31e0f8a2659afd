-- Additions to a registry, one after another.
use Rattle.std.proofs.Common.{◌≡◌, ℕ, ◌+◌, ◌<◌, ◌≤◌, List, [], ◌∷◌, ◌++◌, map, take, length, get_or, refl, ap, sym, ◌∙◌}
use Rattle.std.specs.declared.string.String.{String}
use Rattle.std.specs.declared.alloc.Global.{Global}
use Rattle.std.specs.Map.{values_of}
use Rattle.std.proofs.lemmas.List.Sums.{fold_more, fold-append}
use Rattle.std.proofs.Math.ListN.{get_or-map}
use Rattle.std.proofs.lemmas.List.{take_all, length-map}
use Rattle.gql_registry_meta.specs.Parts.{name_of}
use Rattle.gql_registry_meta.specs.Views.{entries_of, directive_of}
use Rattle.gql_registry.specs.Registry.{Contents, with_type, with_all_implements}
use Rattle.gql_registry_meta.specs.declared.directive.MetaDirective.{MetaDirective}
use Rattle.gql_registry.specs.Additions.{Step, directive, made, all_made}
use Rattle.gql_dynamic.specs.SchemaTypes.{TypeParts, scalar, object, input_object, enum, interface, union, subscription, upload, type_name, type_meta, interfaces}
use Rattle.gql_check.specs.Recorded.{type_step}

-- no step changes nothing
pub none_made : (before : Contents) → all_made before [] ≡ before
unfolding all_made
none_made before = refl

-- the first step, and then the others
pub first_made : (before : Contents) (step : Step) (steps : List Step) → all_made before (step ∷ steps) ≡ all_made (made before step) steps
unfolding all_made
first_made before step steps = refl

-- some steps, and then others
pub all_made-append : (before : Contents) (xs ys : List Step) → all_made before (xs ++ ys) ≡ all_made (all_made before xs) ys
unfolding all_made
all_made-append before xs ys = fold-append made before xs ys

-- one step more
pub one_more : {X : Type 0} (step : X → Step) (before : Contents) (xs : List X) (i : ℕ) (d : X) → i < length xs
    → all_made before (take (i + 1) (map step xs)) ≡ made (all_made before (take i (map step xs))) (step (get_or xs i d))
unfolding all_made
one_more step before xs i d h =
    fold_more made before (map step xs) i (step d) (rw length-map h)
    ∙ ap (made (all_made before (take i (map step xs)))) (get_or-map step xs i d)

-- all of the steps
pub all_steps : {X : Type 0} (step : X → Step) (before : Contents) (xs : List X) (i : ℕ) → length xs ≤ i → all_made before (take i (map step xs)) ≡ all_made before (map step xs)
all_steps step before xs i h = ap (all_made before) (take_all i (map step xs) (rw length-map h))

-- ---- types

-- what is registered for a type has its name
pub name_of-type_meta : (type : TypeParts) → name_of (type_meta type) ≡ type_name type
name_of-type_meta (scalar type) = refl
name_of-type_meta (object type) = refl
name_of-type_meta (input_object type) = refl
name_of-type_meta (enum type) = refl
name_of-type_meta (interface type) = refl
name_of-type_meta (union type) = refl
name_of-type_meta (subscription type) = refl
name_of-type_meta upload = refl

-- a type that is registered is a step
pub registered : (before : Contents) (type : TypeParts) → record before {
  types = with_type before.types (type_meta type);
  implements = with_all_implements (type_name type) before.implements (interfaces type);
} ≡ made before (type_step type)
registered before type = ap
    (λ name. record before {
      types = with_type before.types (type_meta type);
      implements = with_all_implements name before.implements (interfaces type);
    })
    (sym (name_of-type_meta type))

-- the values of a map, by what they stand for
pub values_viewed : {A B : Type 0} (f : A → B) (es : List (String Global × A)) → map (λ e. e.1) (entries_of f es) ≡ map f (values_of es)
values_viewed f [] = refl
values_viewed f (e ∷ es) = ap (λ l. f e.1 ∷ l) (values_viewed f es)

-- ---- directives

abbrev pub directive_step : MetaDirective → Step
directive_step added = directive (directive_of added)

pub directives_viewed : (ds : List MetaDirective) → map directive_step ds ≡ map directive (map directive_of ds)
directives_viewed [] = refl
directives_viewed (d ∷ ds) = ap (λ l. directive_step d ∷ l) (directives_viewed ds)

-- The canonical form of a document whose definitions are sound has sound definitions.
use Rattle.std.proofs.Common.{◌≡◌, Bool, true, false, cond, List, [], ◌∷◌, ◌++◌, filter, map, Option, Some, None, codes, refl, subst, inl, rules}
use Rattle.std.specs.List.{AllByRecursion, find, list_any}
use Rattle.std.specs.Option.{option_map}
use Rattle.gql_grammar.specs.Form.{Terminal}
use Rattle.gql_text_lexer.specs.Forms.{IsName}
use Rattle.gql_text_syntax.specs.Grammar as g
use Rattle.gql_text_syntax.specs.Sorts.{code, name_sort}
use Rattle.gql_text_syntax.specs.Types.{named, plain_with, type_with, type_of as reference_of}
use Rattle.gql_text_syntax.specs.declared.operation.OperationType.{OperationType}
use Rattle.gql_text_syntax.specs.declared.operation.OperationType.TheVariants.{Query, Mutation, Subscription}
use Rattle.gql_text_syntax.specs.declared.sort.Sort.TheVariants.{Bang, OtherName}
use Rattle.gql_text_syntax.specs.declared.syntax.TypeTree.TheFolds.{the_lemmas}
use Rattle.gql_text_syntax.specs.declared.syntax.TypeTree.TheVariants as trees
use Rattle.gql_text_values.specs.declared.const_value.ConstValue.TheVariants as values
use Rattle.gql_text_values.specs.declared.type_ref.TypeRef.TheVariants as refs
use Rattle.gql_text.specs.Roots.{default_root, default_name, defines, is_schema, lines_of, root_by, root_line, root_of, same_operation}
use Rattle.gql_text.specs.declared.document.Definition.{Definition}
use Rattle.gql_text.specs.declared.document.Definition.TheVariants as definition
use Rattle.gql_text.specs.declared.document.DirectiveDef.{DirectiveDef}
use Rattle.gql_text.specs.declared.document.DirectiveUse.{DirectiveUse}
use Rattle.gql_text.specs.declared.document.Document.{Document}
use Rattle.gql_text.specs.declared.document.EnumValueDef.{EnumValueDef}
use Rattle.gql_text.specs.declared.document.FieldDef.{FieldDef}
use Rattle.gql_text.specs.declared.document.InputDef.{InputDef}
use Rattle.gql_text.specs.declared.document.RootLine.{RootLine}
use Rattle.gql_text.specs.declared.document.TypeHead.{TypeHead}
use Rattle.gql_registry_meta.specs.Parts.{Text, Deprecated, not_deprecated, deprecated_for, Invocation}
use Rattle.gql_registry_meta.specs.Locations.{location_text}
use Rattle.gql_registry_meta.specs.declared.directive_location.DirectiveLocation.{DirectiveLocation}
use Rattle.gql_registry.specs.System.{skip, include, deprecated, specified_by, one_of}
use Rattle.gql_publish_document.specs.Uses.{deprecation_in, url_in, has_one_of, is_custom, invocation, invocations_in}
use Rattle.gql_sdl_readback.proofs.Keeps.{AllIn}
use Rattle.gql_sdl_readback.proofs.Sound.{string, leaf, IsSound}
use Rattle.gql_sdl_readback.proofs.Texts.{FitsSort, Spelled}
use Rattle.gql_sdl_view.specs.Options.{Choice}
use Rattle.gql_sdl_view.specs.Ordered.{arranged}
use Rattle.gql_sdl_rows.specs.Shown.{invocation_of, deprecated_uses, url_uses, one_of_uses}
use Rattle.gql_sdl_rows.proofs.Documents.{AreSound}
use Rattle.gql_sdl_rows.proofs.Joined.{location_is}
use Rattle.gql_sdl_rows.proofs.Parts.{IsSoundType, IsSoundInvocation, AreSoundInvocations, AreSoundUses, IsSoundInput, IsSoundField, IsSoundValue, IsSoundHead, IsLocation, IsSoundDirective, IsSoundDefinition}
use Rattle.gql_publish_canonical.proofs.Canonical.{at_zero, canonical_input, canonical_argument, canonical_field, canonical_value, with_uses, canonical_type, canonical_directive, skip_definition, include_definition, deprecated_definition, specified_by_definition, one_of_definition, system_definitions, own_directives, is_missing, ordered_directive_definitions}
use Rattle.gql_publish_canonical.proofs.Lists.{all_arranged, all_filter, all_append, all_map}

-- ---- uses

string_sound : (text : Text) → IsSound 64 (values.String text)
unfolding IsSound
string_sound text = leaf (string text)

deprecated_sound : (d : Deprecated) → AreSoundInvocations (deprecated_uses d)
deprecated_sound not_deprecated = tt
deprecated_sound (deprecated_for None) = (record { name = (refl, refl); arguments = tt }, tt)
deprecated_sound (deprecated_for (Some reason)) = (record { name = (refl, refl); arguments = (record { name = (refl, refl); value = string_sound reason }, tt) }, tt)

url_sound : (url : Option Text) → AreSoundInvocations (url_uses url)
url_sound None = tt
url_sound (Some url) = (record { name = (refl, refl); arguments = (record { name = (refl, refl); value = string_sound url }, tt) }, tt)

one_of_sound : (mark : Bool) → AreSoundInvocations (one_of_uses mark)
one_of_sound true = (record { name = (refl, refl); arguments = tt }, tt)
one_of_sound false = tt

custom_sound : (us : List DirectiveUse) → AreSoundUses us → AreSoundInvocations (invocations_in us)
custom_sound us a = all_map (λ u. IsSoundInvocation (invocation_of u)) IsSoundInvocation invocation (λ u i. i) (filter is_custom us) (all_filter (λ u. IsSoundInvocation (invocation_of u)) is_custom us a)

zero_sound : (us : List Invocation) → AreSoundInvocations us → AreSoundUses (map at_zero us)
zero_sound us a = all_map IsSoundInvocation (λ u. IsSoundInvocation (invocation_of u)) at_zero (λ u i. i) us a

-- attributes, and then the other uses
uses_sound : (attributes : List Invocation) (us : List DirectiveUse) → AreSoundInvocations attributes → AreSoundUses us → AreSoundUses (map at_zero (attributes ++ invocations_in us))
uses_sound attributes us a b = zero_sound (attributes ++ invocations_in us) (all_append IsSoundInvocation attributes (invocations_in us) a (custom_sound us b))

-- ---- members

input_sound : (i : InputDef) → IsSoundInput i → IsSoundInput (canonical_input i)
input_sound i s = record { name = s.name; ty = s.ty; default = s.default; uses = uses_sound (deprecated_uses (deprecation_in i.uses)) i.uses (deprecated_sound (deprecation_in i.uses)) s.uses }

inputs_sound : (t : Bool) (is : List InputDef) → AllByRecursion IsSoundInput is → AllByRecursion IsSoundInput (map canonical_input (arranged (λ (i : InputDef). i.name) t is))
inputs_sound t is a = all_map IsSoundInput IsSoundInput canonical_input input_sound (arranged (λ (i : InputDef). i.name) t is) (all_arranged IsSoundInput (λ (i : InputDef). i.name) t is a)

field_sound : (choice : Choice) (f : FieldDef) → IsSoundField f → IsSoundField (canonical_field choice f)
field_sound choice f s = record {
  name = s.name;
  args = inputs_sound choice.sorted_arguments f.args s.args;
  ty = s.ty;
  uses = uses_sound (deprecated_uses (deprecation_in f.uses)) f.uses (deprecated_sound (deprecation_in f.uses)) s.uses;
}

fields_sound : (choice : Choice) (fs : List FieldDef) → AllByRecursion IsSoundField fs → AllByRecursion IsSoundField (map (canonical_field choice) (arranged (λ (f : FieldDef). f.name) choice.sorted_fields fs))
fields_sound choice fs a = all_map IsSoundField IsSoundField (canonical_field choice) (field_sound choice) (arranged (λ (f : FieldDef). f.name) choice.sorted_fields fs) (all_arranged IsSoundField (λ (f : FieldDef). f.name) choice.sorted_fields fs a)

value_sound : (v : EnumValueDef) → IsSoundValue v → IsSoundValue (canonical_value v)
value_sound v s = record { name = s.name; uses = uses_sound (deprecated_uses (deprecation_in v.uses)) v.uses (deprecated_sound (deprecation_in v.uses)) s.uses }

values_sound : (t : Bool) (vs : List EnumValueDef) → AllByRecursion IsSoundValue vs → AllByRecursion IsSoundValue (map canonical_value (arranged (λ (v : EnumValueDef). v.name) t vs))
values_sound t vs a = all_map IsSoundValue IsSoundValue canonical_value value_sound (arranged (λ (v : EnumValueDef). v.name) t vs) (all_arranged IsSoundValue (λ (v : EnumValueDef). v.name) t vs a)

-- ---- types

head_sound : (attributes : List Invocation) (head : TypeHead) → AreSoundInvocations attributes → IsSoundHead head → IsSoundHead (with_uses (attributes ++ invocations_in head.uses) head)
head_sound attributes head a s = record { name = s.name; uses = uses_sound attributes head.uses a s.uses }

type_sound : (choice : Choice) (d : Definition) → IsSoundDefinition d → IsSoundDefinition (canonical_type choice d)
type_sound choice (definition.SchemaBlock roots at) s = s
type_sound choice (definition.Scalar head) s = head_sound (url_uses (url_in head.uses)) head (url_sound (url_in head.uses)) s
type_sound choice (definition.Object head implements fields) s = (head_sound [] head tt s.0, s.1, fields_sound choice fields s.2)
type_sound choice (definition.Interface head implements fields) s = (head_sound [] head tt s.0, s.1, fields_sound choice fields s.2)
type_sound choice (definition.Union head members) s = (head_sound [] head tt s.0, s.1)
type_sound choice (definition.Enum head values) s = (head_sound [] head tt s.0, values_sound choice.sorted_enum_items values s.1)
type_sound choice (definition.Input head fields) s = (head_sound (one_of_uses (has_one_of head.uses)) head (one_of_sound (has_one_of head.uses)) s.0, inputs_sound choice.sorted_fields fields s.1)
type_sound choice (definition.Directive directive) s = s

pub types_sound : (choice : Choice) (ds : List Definition) → AreSound ds → AreSound (map (canonical_type choice) ds)
types_sound choice ds a = all_map IsSoundDefinition IsSoundDefinition (canonical_type choice) (type_sound choice) ds a

-- ---- definitions of directives

argument_sound : (i : InputDef) → IsSoundInput i → IsSoundInput (canonical_argument i)
argument_sound i s = record { name = s.name; ty = s.ty; default = s.default; uses = tt }

pub directive_sound : (d : DirectiveDef) → IsSoundDirective d → IsSoundDirective (canonical_directive d)
directive_sound d s = record { name = s.name; args = all_map IsSoundInput IsSoundInput canonical_argument argument_sound d.args s.args; locations = s.locations; has = s.has }

-- ---- the types of the arguments of system directives

-- a name that is no word of the grammar
record IsOtherName (name : Text) : Type 0 where
  is_name : IsName name
  sorted : code OtherName ≡ name_sort name

other_token : Text → Terminal
other_token name = record { sort = code OtherName; text = name; at = 0 }

bang_token : Terminal
bang_token = record { sort = code Bang; text = codes "!"; at = 0 }

other_fits : (name : Text) → IsOtherName name → FitsSort (other_token name)
unfolding other_token
other_fits name i = record { name = λ m. i.is_name; sort = λ m. i.sorted; number = λ e. absurd cc }

bang_fits : FitsSort bang_token
unfolding bang_token
bang_fits = record { name = λ m. absurd cc; sort = λ m. absurd cc; number = λ e. absurd cc }

named_spelled : (name : Text) → IsOtherName name → Spelled g.type_ref (trees.Named name)
unfolding other_token type_with plain_with named
named_spelled name i = record {
  terminals = other_token name ∷ [];
  spells = ((trees.Named name, None), (other_token name ∷ [], [], inl (other_token name, (refl, refl), refl), refl, refl), refl);
  fit = (other_fits name i, tt);
}

marked_spelled : (name : Text) → IsOtherName name → Spelled g.type_ref (trees.NonNull (trees.Named name))
unfolding other_token bang_token type_with plain_with named
marked_spelled name i = record {
  terminals = other_token name ∷ bang_token ∷ [];
  spells = ((trees.Named name, Some bang_token), (other_token name ∷ [], bang_token ∷ [], inl (other_token name, (refl, refl), refl), (refl, refl), refl), refl);
  fit = (other_fits name i, (bang_fits, tt));
}

named_same : (name : Text) → reference_of (trees.Named name) ≡ refs.Named name
named_same name = search (rules, the_lemmas)

marked_same : (name : Text) → reference_of (trees.NonNull (trees.Named name)) ≡ refs.NonNull (refs.Named name)
marked_same name = search (rules, the_lemmas)

named_sound : (name : Text) → IsOtherName name → IsSoundType (refs.Named name)
named_sound name i = record { tree = trees.Named name; spelled = named_spelled name i; same = named_same name }

marked_sound : (name : Text) → IsOtherName name → IsSoundType (refs.NonNull (refs.Named name))
marked_sound name i = record { tree = trees.NonNull (trees.Named name); spelled = marked_spelled name i; same = marked_same name }

string_name : IsOtherName (codes "String")
string_name = record { is_name = (refl, refl); sorted = refl }

boolean_name : IsOtherName (codes "Boolean")
boolean_name = record { is_name = (refl, refl); sorted = refl }

-- ---- system directives

locations_sound : (ls : List DirectiveLocation) → AllByRecursion IsLocation (map location_text ls)
locations_sound [] = tt
locations_sound (l ∷ ls) = (location_is l, locations_sound ls)

skip_sound : IsSoundDirective skip_definition
unfolding skip
skip_sound = record {
  name = (refl, refl);
  args = (record { name = (refl, refl); ty = marked_sound (codes "Boolean") boolean_name; default = tt; uses = tt }, tt);
  locations = locations_sound skip.locations;
  has = tt;
}

include_sound : IsSoundDirective include_definition
unfolding include
include_sound = record {
  name = (refl, refl);
  args = (record { name = (refl, refl); ty = marked_sound (codes "Boolean") boolean_name; default = tt; uses = tt }, tt);
  locations = locations_sound include.locations;
  has = tt;
}

deprecated_directive_sound : IsSoundDirective deprecated_definition
unfolding deprecated
deprecated_directive_sound = record {
  name = (refl, refl);
  args = (record { name = (refl, refl); ty = named_sound (codes "String") string_name; default = string_sound (codes "No longer supported"); uses = tt }, tt);
  locations = locations_sound deprecated.locations;
  has = tt;
}

specified_by_sound : IsSoundDirective specified_by_definition
unfolding specified_by
specified_by_sound = record {
  name = (refl, refl);
  args = (record { name = (refl, refl); ty = marked_sound (codes "String") string_name; default = tt; uses = tt }, tt);
  locations = locations_sound specified_by.locations;
  has = tt;
}

one_of_directive_sound : IsSoundDirective one_of_definition
unfolding one_of
one_of_directive_sound = record { name = (refl, refl); args = tt; locations = locations_sound one_of.locations; has = tt }

pub system_sound : AllByRecursion IsSoundDirective system_definitions
system_sound = (skip_sound, (include_sound, (deprecated_directive_sound, (specified_by_sound, (one_of_directive_sound, tt)))))

-- ---- all definitions of directives

own_sound : (ds : List Definition) → AreSound ds → AllByRecursion IsSoundDirective (own_directives ds)
own_sound [] a = tt
own_sound (definition.SchemaBlock roots at ∷ ds) a = own_sound ds a.1
own_sound (definition.Scalar head ∷ ds) a = own_sound ds a.1
own_sound (definition.Object head implements fields ∷ ds) a = own_sound ds a.1
own_sound (definition.Interface head implements fields ∷ ds) a = own_sound ds a.1
own_sound (definition.Union head members ∷ ds) a = own_sound ds a.1
own_sound (definition.Enum head values ∷ ds) a = own_sound ds a.1
own_sound (definition.Input head fields ∷ ds) a = own_sound ds a.1
own_sound (definition.Directive d ∷ ds) a = (a.0, own_sound ds a.1)

pub ordered_sound : (ds : List Definition) → AreSound ds → AllByRecursion IsSoundDirective (ordered_directive_definitions ds)
ordered_sound ds a =
    let own : List DirectiveDef = own_directives ds in
    let added : List DirectiveDef = filter (is_missing own) system_definitions in
    all_arranged IsSoundDirective (λ (d : DirectiveDef). d.name) true (own ++ added)
    (all_append IsSoundDirective own added (own_sound ds a) (all_filter IsSoundDirective (is_missing own) system_definitions system_sound))

-- ---- roots

-- the name, where there is one, is a name
abbrev pub IsNamed : Option Text → Type 0
IsNamed None = Unit {0}
IsNamed (Some name) = IsName name

line_named : (lines : List RootLine) (kind : OperationType) → AllByRecursion (λ l. IsName l.name) lines → IsNamed (root_line kind lines)
line_named [] kind a = tt
line_named (l ∷ lines) kind a = by_test (same_operation kind l.kind) (line_named lines kind a.1)
  where
    by_test : (t : Bool) → IsNamed (root_line kind lines) → IsNamed (option_map (λ (l : RootLine). l.name) (cond t (Some l) (find (λ (l : RootLine). same_operation kind l.kind) lines)))
    by_test true h = a.0
    by_test false h = h

default_named : (kind : OperationType) (is_defined : Bool) → IsNamed (default_root kind is_defined)
default_named Query t = (refl, refl)
default_named Mutation true = (refl, refl)
default_named Mutation false = tt
default_named Subscription true = (refl, refl)
default_named Subscription false = tt

lines_sound : (d : Definition) → IsSoundDefinition d → AllByRecursion (λ (l : RootLine). IsName l.name) (lines_of d)
lines_sound (definition.SchemaBlock roots at) s = s
lines_sound (definition.Scalar head) s = tt
lines_sound (definition.Object head implements fields) s = tt
lines_sound (definition.Interface head implements fields) s = tt
lines_sound (definition.Union head members) s = tt
lines_sound (definition.Enum head values) s = tt
lines_sound (definition.Input head fields) s = tt
lines_sound (definition.Directive directive) s = tt

found_sound : (ds : List Definition) (o : Option Definition) → AreSound ds → find is_schema ds ≡ o → AllIn IsSoundDefinition o
found_sound ds None a e = tt
found_sound [] (Some d) a e = absurd cc
found_sound (c ∷ ds) (Some d) a e = by_test (is_schema c) e (λ f. found_sound ds (Some d) a.1 f)
  where
    by_test : (t : Bool) → cond t (Some c) (find is_schema ds) ≡ Some d → (find is_schema ds ≡ Some d → IsSoundDefinition d) → IsSoundDefinition d
    by_test true f h = let same : c ≡ d = cc in subst IsSoundDefinition same a.0
    by_test false f h = h f

by_named : (o : Option Definition) (kind : OperationType) (ds : List Definition) → AllIn IsSoundDefinition o → IsNamed (root_by o kind ds)
by_named None kind ds h = default_named kind (list_any (defines (default_name kind)) ds)
by_named (Some d) kind ds h = line_named (lines_of d) kind (lines_sound d h)

-- the name of a root is one
pub root_named : (kind : OperationType) (d : Document) → AreSound d.definitions → IsNamed (root_of kind d)
root_named kind d a = by_named (find is_schema d.definitions) kind d.definitions (found_sound d.definitions (find is_schema d.definitions) a refl)

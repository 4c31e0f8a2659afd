-- What follows for the types of a document from its keeping the rules of a schema.
use Rattle.std.proofs.Common.{◌≡◌, Bool, true, false, cond, not, ◌||◌, ◌&&◌, List, [], ◌∷◌, map, refl, ap, sym, subst, ◌∙◌, Some, None}
use Rattle.std.specs.Prelude.{option_and_then}
use Rattle.std.specs.declared.option.Option.{Option}
use Rattle.std.specs.Option.{option_map}
use Rattle.std.specs.List.{AllByRecursion}
use Rattle.std.specs.Map.{keys_of}
use Rattle.std.specs.Str.{bytes_eq}
use Rattle.std.proofs.lemmas.Slice.Eq.{bytes_eq-Decides}
use Rattle.gql_text_values.specs.TypeRefs.{innermost}
use Rattle.gql_text_lexer.specs.Forms.{is_reserved}
use Rattle.gql_registry_meta.specs.Parts.{Text, at_text, is_among, is_empty}
use Rattle.gql_registry_meta.specs.declared.type_id.MetaTypeId.TheVariants as kind
use Rattle.gql_check_rules.specs.Schema.{Definition, Schema, Field, exists, passes, is_object, is_subscription, names_output, interface_fields}
use Rattle.gql_check_rules.specs.Tests.{fault_if, or_else, first_of, first_in, found_or}
use Rattle.gql_check_rules.specs.Faults.{not_interface, not_found, query_root, mutation_root, subscription_root, empty_object, field_underscores, field_output}
use Rattle.gql_check_rules.specs.Rules.{input_fault, interface_fault, union_fault, may_be_empty, name_fault, name_missing, existence_fault, root_missing, type_missing, root_fault, roots_fault, optional_root_fault, object_fault, field_fault, argument_fault, implements_fault, field_implemented, first_fault}
use Rattle.gql_dynamic_types.specs.Types.{ObjectParts, each_meta}
use Rattle.gql_parts.specs.Builders.{FieldParts, field_meta}
use Rattle.gql_dynamic.specs.SchemaTypes.{TypeParts, scalar, object, input_object, enum, interface, union, subscription, upload}
use Rattle.gql_check_code.specs.Definitions.{SchemaParts, definition, each_of, schema, checked_fields_of, checked_field_of}
use Rattle.gql_publish_standing.proofs.TypesUnder.{declared}

none_both : {F : Type 0} (a b : Option F) → or_else a b ≡ None → (a ≡ None) × (b ≡ None)
none_both None b e = (refl, e)
none_both (Some x) b e = absurd cc

fault_none : {F : Type 0} (b : Bool) (f : F) → fault_if b f ≡ None → b ≡ false
fault_none true f e = absurd cc
fault_none false f e = refl

-- what a view makes of what stands under a name
at_each : {X Y : Type 0} (view : X → Y) (name : Text) (es : List (Text × X)) → at_text name (each_of view es) ≡ option_map view (at_text name es)
at_each view name [] = refl
at_each view name (e ∷ es) = by (bytes_eq name e.0) (at_each view name es)
  where
    by : (b : Bool) → at_text name (each_of view es) ≡ option_map view (at_text name es) → cond b (Some (view e.1)) (at_text name (each_of view es)) ≡ option_map view (cond b (Some e.1) (at_text name es))
    by true rest = refl
    by false rest = rest

module _ {F : Type 0} (test : Text × Definition → Option F) (name : Text) where
  -- a test that finds nothing anywhere finds nothing in the type of a name
  none_at : (es : List (Text × TypeParts)) (t : TypeParts) → first_in test (each_of definition es) ≡ None → at_text name es ≡ Some t → test (name, definition t) ≡ None
  none_at [] t e found = cc found
  none_at (x ∷ es) t e found = by (bytes_eq name x.0) refl found (none_at es t parts.1)
    where
      parts : (test (x.0, definition x.1) ≡ None) × (first_in test (each_of definition es) ≡ None)
      parts = none_both (test (x.0, definition x.1)) (first_in test (each_of definition es)) e

      by : (b : Bool) → bytes_eq name x.0 ≡ b → cond b (Some x.1) (at_text name es) ≡ Some t → (at_text name es ≡ Some t → test (name, definition t) ≡ None) → test (name, definition t) ≡ None
      by true p found rest =
          let same : x.1 ≡ t = cc found in
          subst (λ n. test (n, definition t) ≡ None) (sym ((bytes_eq-Decides name x.0).0 p)) (subst (λ u. test (x.0, definition u) ≡ None) same parts.0)
      by false p found rest = rest found

-- ---- the query root

must : (a b : Bool) → not a ≡ false → a && not b ≡ false → b ≡ true
must true true p q = refl
must true false p q = absurd cc
must false b p q = absurd cc

-- an object stands under the name of the query root
object_there : (o : Option TypeParts) → passes is_object (option_map definition o) ≡ true → (type : ObjectParts) × (o ≡ Some (object type))
object_there None e = absurd cc
object_there (Some (scalar t)) e = absurd cc
object_there (Some (object t)) e = (t, refl)
object_there (Some (input_object t)) e = absurd cc
object_there (Some (enum t)) e = absurd cc
object_there (Some (interface t)) e = absurd cc
object_there (Some (union t)) e = absurd cc
object_there (Some (subscription t)) e = absurd cc
object_there (Some upload) e = absurd cc

-- the groups of rules of which none is broken
record Groups (s : Schema) : Type 0 where
  existence : existence_fault s ≡ None
  roots : roots_fault s ≡ None
  objects : first_in (object_fault s) s.types ≡ None

groups : (s : Schema) → first_fault s ≡ None → Groups s
groups s kept =
    let after_names = none_both (first_in name_fault s.types) (first_of (existence_fault s ∷ roots_fault s ∷ first_in (object_fault s) s.types ∷ first_in (input_fault s) s.types ∷ first_in (interface_fault s) s.types ∷ first_in (union_fault s) s.types ∷ [])) kept in
    let after_existence = none_both (existence_fault s) (first_of (roots_fault s ∷ first_in (object_fault s) s.types ∷ first_in (input_fault s) s.types ∷ first_in (interface_fault s) s.types ∷ first_in (union_fault s) s.types ∷ [])) after_names.1 in
    let after_roots = none_both (roots_fault s) (first_of (first_in (object_fault s) s.types ∷ first_in (input_fault s) s.types ∷ first_in (interface_fault s) s.types ∷ first_in (union_fault s) s.types ∷ [])) after_existence.1 in
    let after_objects = none_both (first_in (object_fault s) s.types) (first_of (first_in (input_fault s) s.types ∷ first_in (interface_fault s) s.types ∷ first_in (union_fault s) s.types ∷ [])) after_roots.1 in
    record { existence = after_existence.0; roots = after_roots.0; objects = after_objects.0 }

query_passes : (s : Schema) → Groups s → passes is_object (at_text s.query s.types) ≡ true
query_passes s g =
    let there = none_both (name_missing s s.query) (first_of (root_missing s s.mutation ∷ first_in (type_missing s) s.types ∷ [])) g.existence in
    let right = none_both (root_fault s is_object query_root s.query) (first_of (optional_root_fault s is_object mutation_root s.mutation ∷ optional_root_fault s is_subscription subscription_root s.subscription ∷ [])) g.roots in
    must (exists s s.query) (passes is_object (at_text s.query s.types))
    (fault_none (not (exists s s.query)) (not_found s.query) there.0)
    (fault_none (exists s s.query && not (passes is_object (at_text s.query s.types))) query_root right.0)

pub query_object : (parts : SchemaParts) → first_fault (schema parts) ≡ None → (type : ObjectParts) × (at_text parts.query parts.types ≡ Some (object type))
query_object parts kept = object_there (at_text parts.query parts.types)
    (ap (passes is_object) (sym (at_each definition parts.query parts.types)) ∙ query_passes (schema parts) (groups (schema parts) kept))

-- ---- the fields and the interfaces of an object

record ObjectKept (s : Schema) (name : Text) (type : ObjectParts) : Type 0 where
  fields : first_in (field_fault s name) (checked_fields_of type.fields) ≡ None
  implements : first_in (implements_fault s kind.Object name (checked_fields_of type.fields)) type.implements ≡ None

object_kept : (s : Schema) (name : Text) (type : ObjectParts) → object_fault s (name, definition (object type)) ≡ None → ObjectKept s name type
object_kept s name type e =
    let first = none_both (fault_if (is_empty (checked_fields_of type.fields) && not (may_be_empty s name)) (empty_object name)) (first_of (first_in (field_fault s name) (checked_fields_of type.fields) ∷ first_in (implements_fault s kind.Object name (checked_fields_of type.fields)) type.implements ∷ [])) e in
    let second = none_both (first_in (field_fault s name) (checked_fields_of type.fields)) (first_of (first_in (implements_fault s kind.Object name (checked_fields_of type.fields)) type.implements ∷ [])) first.1 in
    let third = none_both (first_in (implements_fault s kind.Object name (checked_fields_of type.fields)) type.implements) None second.1 in
    record { fields = second.0; implements = third.0 }

unreserved : (s : Schema) (name : Text) (es : List (Text × FieldParts)) → first_in (field_fault s name) (checked_fields_of es) ≡ None → AllByRecursion (λ k. is_reserved k ≡ false) (keys_of (each_meta field_meta es))
unreserved s name [] e = tt
unreserved s name (x ∷ es) e =
    let parts = none_both (field_fault s name (x.0, checked_field_of x.1)) (first_in (field_fault s name) (checked_fields_of es)) e in
    let own = none_both (fault_if (is_reserved x.0) (field_underscores name x.0)) (first_of (fault_if (not (names_output s (innermost (checked_field_of x.1).ty))) (field_output name x.0) ∷ first_in (argument_fault s name x.0) (checked_field_of x.1).arguments ∷ [])) parts.0 in
    (fault_none (is_reserved x.0) (field_underscores name x.0) own.0, unreserved s name es parts.1)

-- the fields of the query root have no reserved names
pub query_unreserved : (parts : SchemaParts) → first_fault (schema parts) ≡ None → (type : ObjectParts) → at_text parts.query parts.types ≡ Some (object type)
    → AllByRecursion (λ k. is_reserved k ≡ false) (keys_of (each_meta field_meta type.fields))
query_unreserved parts kept type found =
    let s = schema parts in
    let e = none_at (object_fault s) parts.query parts.types (object type) (groups s kept).objects found in
    unreserved s parts.query type.fields (object_kept s parts.query type e).fields

-- ---- what is no interface is declared by no object

none_declared : (s : Schema) (ty name : Text) (fields : List (Text × Field)) (names : List Text) → first_in (implements_fault s kind.Object ty fields) names ≡ None
    → option_and_then interface_fields (at_text name s.types) ≡ None → is_among name names ≡ false
none_declared s ty name fields [] e none = refl
none_declared s ty name fields (i ∷ names) e none = by (bytes_eq name i) refl (none_declared s ty name fields names parts.1 none)
  where
    parts : (implements_fault s kind.Object ty fields i ≡ None) × (first_in (implements_fault s kind.Object ty fields) names ≡ None)
    parts = none_both (implements_fault s kind.Object ty fields i) (first_in (implements_fault s kind.Object ty fields) names) e

    by : (b : Bool) → bytes_eq name i ≡ b → is_among name names ≡ false → b || is_among name names ≡ false
    by true p rest =
        let same : name ≡ i = (bytes_eq-Decides name i).0 p in
        let absent : option_and_then interface_fields (at_text i s.types) ≡ None = subst (λ n. option_and_then interface_fields (at_text n s.types) ≡ None) same none in
        let told : implements_fault s kind.Object ty fields i ≡ Some (not_interface i) =
        ap (λ o. found_or o (λ wanted. first_in (field_implemented s (record { kind = kind.Object; ty = ty; interface = i }) fields) wanted) (Some (not_interface i))) absent in
        let wrong : Some (not_interface i) ≡ None = sym told ∙ parts.0 in
        absurd cc
    by false p rest = rest

undeclared_in : (s : Schema) (name : Text) (es : List (Text × TypeParts)) → first_in (object_fault s) (each_of definition es) ≡ None
    → option_and_then interface_fields (at_text name s.types) ≡ None → AllByRecursion (λ t. is_among name (declared t) ≡ false) (map (λ e. e.1) es)
undeclared_in s name [] e none = tt
undeclared_in s name (x ∷ es) e none = (by x.1 parts.0, undeclared_in s name es parts.1 none)
  where
    parts : (object_fault s (x.0, definition x.1) ≡ None) × (first_in (object_fault s) (each_of definition es) ≡ None)
    parts = none_both (object_fault s (x.0, definition x.1)) (first_in (object_fault s) (each_of definition es)) e

    by : (t : TypeParts) → object_fault s (x.0, definition t) ≡ None → is_among name (declared t) ≡ false
    by (scalar t) h = refl
    by (object t) h = none_declared s x.0 name (checked_fields_of t.fields) t.implements (object_kept s x.0 t h).implements none
    by (input_object t) h = refl
    by (enum t) h = refl
    by (interface t) h = refl
    by (union t) h = refl
    by (subscription t) h = refl
    by upload h = refl

-- an object declares no name under which no interface stands
pub undeclared : (parts : SchemaParts) → first_fault (schema parts) ≡ None → (name : Text) → option_and_then interface_fields (option_map definition (at_text name parts.types)) ≡ None
    → AllByRecursion (λ t. is_among name (declared t) ≡ false) (map (λ e. e.1) parts.types)
undeclared parts kept name none =
    undeclared_in (schema parts) name parts.types (groups (schema parts) kept).objects (ap (option_and_then interface_fields) (at_each definition name parts.types) ∙ none)

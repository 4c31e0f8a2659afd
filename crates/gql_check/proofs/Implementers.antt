-- The possible types of an interface are the objects that implement it.
use Rattle.std.proofs.Common.{◌≡◌, Bool, true, false, ◌||◌, cond, List, [], ◌∷◌, ◌++◌, map, flat_map, refl, ap, sym, subst, ◌∙◌, Some, None, if◌then◌else◌, append_assoc, append-nil}
use Rattle.std.specs.declared.option.Option.{Option}
use Rattle.std.specs.declared.cmp.Ordering.{Ordering}
use Rattle.std.specs.declared.cmp.Ordering.TheVariants.{Less, Equal, Greater}
use Rattle.std.specs.Option.{option_map_or}
use Rattle.std.specs.Map.{set_value, keys_of}
use Rattle.std.specs.Str.{bytes_eq}
use Rattle.std.specs.BTreeMap.{insert_entry}
use Rattle.std.specs.Ordering.{match_ordering, is_eq}
use Rattle.std.proofs.lemmas.Map.Text.{is_eq-slice_cmp}
use Rattle.std.proofs.lemmas.Slice.Eq.{bytes_eq-Decides}
use Rattle.gql_registry_meta.specs.Parts.{Text, text_cmp, at_text, is_among, Directive, Field, Meta, name_of}
use Rattle.gql_registry.specs.Registry.{Contents, with_name, with_possible}
use Rattle.gql_registry.specs.Additions.{Step, directive, missing_type, query_field, possible_type, made, all_made, object_with}
use Rattle.gql_registry.specs.Introspection.{introspection_types, query_fields}
use Rattle.gql_dynamic_types.specs.Types.{ObjectParts, InterfaceParts, interface_meta}
use Rattle.gql_dynamic.specs.SchemaTypes.{TypeParts, scalar, object, input_object, enum, interface, union, subscription, upload, type_name, type_meta, object_of}
use Rattle.gql_check.specs.Recorded.{Recorded, types_in, type_step, object_steps, possible_steps, telling_steps, system_contents, type_contents, directive_contents, possible_contents, schema_contents}
use Rattle.gql_check.specs.Names.{HasOwnNames, HasDifferentNames}
use Rattle.gql_check.specs.Implementers.{implementer, possible_among, KnowsImplementers}
use Rattle.gql_check.proofs.Keys.{AreFree, names_apart}
use Rattle.gql_check.proofs.RegistrySteps.{name_of-type_meta, all_made-append}

itself : (name : Text) → bytes_eq name name ≡ true
itself name = (bytes_eq-Decides name name).1 refl

either_not : (a b : Bool) → a || b ≡ false → (a ≡ false) × (b ≡ false)
either_not true b e = cc e
either_not false b e = (refl, e)

-- ---- what stands under a name

apart_from : (name m k : Text) → bytes_eq m k ≡ true → bytes_eq name m ≡ false → bytes_eq name k ≡ false
apart_from name m k e a = subst (λ t. bytes_eq name t ≡ false) ((bytes_eq-Decides m k).0 e) a

module _ {X : Type 0} (name : Text) where
  set_apart : (m : Text) (es : List (Text × X)) (w : X) → bytes_eq name m ≡ false → at_text name (set_value (bytes_eq m) es w) ≡ at_text name es
  set_apart m [] w a = refl
  set_apart m (e ∷ es) w a = by (bytes_eq m e.0) refl (set_apart m es w a)
    where
      by : (b : Bool) → bytes_eq m e.0 ≡ b → at_text name (set_value (bytes_eq m) es w) ≡ at_text name es → at_text name (cond b ((e.0, w) ∷ es) (e ∷ set_value (bytes_eq m) es w)) ≡ at_text name (e ∷ es)
      by true p rest =
          let away = apart_from name m e.0 p a in
          ap (λ b. cond b (Some w) (at_text name es)) away ∙ sym (ap (λ b. cond b (Some e.1) (at_text name es)) away)
      by false p rest = ap (λ found. cond (bytes_eq name e.0) (Some e.1) found) rest

  set_here : (es : List (Text × X)) (v w : X) → at_text name es ≡ Some v → at_text name (set_value (bytes_eq name) es w) ≡ Some w
  set_here [] v w h = cc h
  set_here (e ∷ es) v w h = by (bytes_eq name e.0) refl h (set_here es v w)
    where
      by : (b : Bool) → bytes_eq name e.0 ≡ b → cond b (Some e.1) (at_text name es) ≡ Some v → (at_text name es ≡ Some v → at_text name (set_value (bytes_eq name) es w) ≡ Some w) → at_text name (cond b ((e.0, w) ∷ es) (e ∷ set_value (bytes_eq name) es w)) ≡ Some w
      by true p h rest = ap (λ b. cond b (Some w) (at_text name es)) p
      by false p h rest = ap (λ b. cond b (Some e.1) (at_text name (set_value (bytes_eq name) es w))) p ∙ rest h

  with_apart : (m : Text) (es : List (Text × X)) (w : X) → bytes_eq name m ≡ false → at_text name (insert_entry text_cmp es m w) ≡ at_text name es
  with_apart m [] w a = ap (λ b. cond b (Some w) None) a
  with_apart m (e ∷ es) w a = by (text_cmp m e.0) refl (with_apart m es w a)
    where
      by : (o : Ordering) → text_cmp m e.0 ≡ o → at_text name (insert_entry text_cmp es m w) ≡ at_text name es → at_text name (match_ordering o ((m, w) ∷ e ∷ es) ((e.0, w) ∷ es) (e ∷ insert_entry text_cmp es m w)) ≡ at_text name (e ∷ es)
      by Less p rest = ap (λ b. cond b (Some w) (at_text name (e ∷ es))) a
      by Equal p rest =
          let away = apart_from name m e.0 (sym (is_eq-slice_cmp m e.0) ∙ ap is_eq p) a in
          ap (λ b. cond b (Some w) (at_text name es)) away ∙ sym (ap (λ b. cond b (Some e.1) (at_text name es)) away)
      by Greater p rest = ap (λ found. cond (bytes_eq name e.0) (Some e.1) found) rest

  with_here : (es : List (Text × X)) (w : X) → at_text name (insert_entry text_cmp es name w) ≡ Some w
  with_here [] w = ap (λ b. cond b (Some w) None) (itself name)
  with_here (e ∷ es) w = by (text_cmp name e.0) refl (with_here es w)
    where
      by : (o : Ordering) → text_cmp name e.0 ≡ o → at_text name (insert_entry text_cmp es name w) ≡ Some w → at_text name (match_ordering o ((name, w) ∷ e ∷ es) ((e.0, w) ∷ es) (e ∷ insert_entry text_cmp es name w)) ≡ Some w
      by Less p rest = ap (λ b. cond b (Some w) (at_text name (e ∷ es))) (itself name)
      by Equal p rest = ap (λ b. cond b (Some w) (at_text name es)) (sym (is_eq-slice_cmp name e.0) ∙ ap is_eq p)
      by Greater p rest = ap (λ b. cond b (Some e.1) (at_text name (insert_entry text_cmp es name w))) (sym (is_eq-slice_cmp name e.0) ∙ ap is_eq p) ∙ rest

-- ---- free names

-- a name of the others is none of the free ones
used_apart : (name : Text) (names others : List Text) → is_among name others ≡ true → AreFree names others → is_among name names ≡ false
used_apart name [] others m free = refl
used_apart name (n ∷ ns) others m free = by (bytes_eq name n) refl (λ k. used_apart name ns (n ∷ others) k free.1)
  where
    by : (b : Bool) → bytes_eq name n ≡ b → (is_among name (n ∷ others) ≡ true → is_among name ns ≡ false) → b || is_among name ns ≡ false
    by true p rest = cc (sym (subst (λ t. is_among t others ≡ true) ((bytes_eq-Decides name n).0 p) m) ∙ free.0)
    by false p rest = rest (ap (λ b. b || is_among name others) p ∙ m)

-- what is free is so of fewer others
free_fewer : (names ks ls : List Text) → ((name : Text) → is_among name ks ≡ false → is_among name ls ≡ false) → AreFree names ks → AreFree names ls
free_fewer [] ks ls fewer free = tt
free_fewer (n ∷ ns) ks ls fewer free = (fewer n free.0, free_fewer ns (n ∷ ks) (n ∷ ls) more free.1)
  where
    more : (m : Text) → bytes_eq m n || is_among m ks ≡ false → bytes_eq m n || is_among m ls ≡ false
    more m h = let parts = either_not (bytes_eq m n) (is_among m ks) h in ap (λ b. b || is_among m ls) parts.0 ∙ fewer m parts.1

-- ---- the types, the directives, and what a schema says about itself

module _ (name : Text) where
  types_apart : (types : List TypeParts) → is_among name (map type_name types) ≡ false → (before : Contents) (v : Meta) → at_text name before.types ≡ Some v
      → at_text name (all_made before (map type_step types)).types ≡ Some v
  unfolding all_made
  types_apart [] a before v h = h
  types_apart (t ∷ ts) a before v h =
      let parts = either_not (bytes_eq name (type_name t)) (is_among name (map type_name ts)) a in
      let away : bytes_eq name (name_of (type_meta t)) ≡ false = ap (bytes_eq name) (name_of-type_meta t) ∙ parts.0 in
      types_apart ts parts.1 (made before (type_step t)) v (with_apart name (name_of (type_meta t)) before.types (type_meta t) away ∙ h)

  type_here : (t : TypeParts) (before : Contents) → name ≡ type_name t → at_text name (made before (type_step t)).types ≡ Some (type_meta t)
  type_here t before e = subst (λ n. at_text name (insert_entry text_cmp before.types n (type_meta t)) ≡ Some (type_meta t)) (e ∙ sym (name_of-type_meta t)) (with_here name before.types (type_meta t))

  -- each type is there as it is registered
  types_there : (es : List (Text × TypeParts)) (others : List Text) (type : TypeParts) → map (λ entry. type_name entry.1) es ≡ keys_of es → AreFree (map type_name (map (λ entry. entry.1) es)) others
      → at_text name es ≡ Some type → (before : Contents) → at_text name (all_made before (map type_step (map (λ entry. entry.1) es))).types ≡ Some (type_meta type)
  unfolding all_made
  types_there [] others type own free found before = cc found
  types_there (e ∷ es) others type own free found before = by (bytes_eq name e.0) refl found (λ found. types_there es (type_name e.1 ∷ others) type (cc own) free.1 found (made before (type_step e.1)))
    where
      rest : List TypeParts
      rest = map (λ entry. entry.1) es

      by : (b : Bool) → bytes_eq name e.0 ≡ b → cond b (Some e.1) (at_text name es) ≡ Some type
          → (at_text name es ≡ Some type → at_text name (all_made (made before (type_step e.1)) (map type_step (map (λ entry. entry.1) es))).types ≡ Some (type_meta type))
          → at_text name (all_made (made before (type_step e.1)) (map type_step (map (λ entry. entry.1) es))).types ≡ Some (type_meta type)
      by true p found later =
          let head : type_name e.1 ≡ e.0 = cc own in
          let same : name ≡ type_name e.1 = (bytes_eq-Decides name e.0).0 p ∙ sym head in
          let first : e.1 ≡ type = cc found in
          let among : is_among name (type_name e.1 ∷ others) ≡ true = ap (λ b. b || is_among name others) ((bytes_eq-Decides name (type_name e.1)).1 same) in
          types_apart rest (used_apart name (map type_name rest) (type_name e.1 ∷ others) among free.1) (made before (type_step e.1)) (type_meta type)
          (type_here e.1 before same ∙ ap (λ t. Some (type_meta t)) first)
      by false p found later = later found

  directives_apart : (added : List Directive) (before : Contents) → (all_made before (map directive added)).types ≡ before.types
  unfolding all_made
  directives_apart [] before = refl
  directives_apart (d ∷ ds) before = directives_apart ds (made before (directive d))

  -- a type that is there stays
  missing_apart : (types : List Meta) (before : Contents) (v : Meta) → at_text name before.types ≡ Some v → at_text name (all_made before (map missing_type types)).types ≡ Some v
  unfolding all_made
  missing_apart [] before v h = h
  missing_apart (t ∷ ts) before v h = missing_apart ts (made before (missing_type t)) v (by (at_text (name_of t) before.types) refl)
    where
      away : (b : Bool) → bytes_eq name (name_of t) ≡ b → at_text (name_of t) before.types ≡ None → b ≡ false
      away true p none = cc (sym h ∙ ap (λ n. at_text n before.types) ((bytes_eq-Decides name (name_of t)).0 p) ∙ none)
      away false p none = refl

      by : (o : Option Meta) → at_text (name_of t) before.types ≡ o → at_text name (option_map_or (λ _. before.types) o (insert_entry text_cmp before.types (name_of t) t)) ≡ Some v
      by None p = with_apart name (name_of t) before.types t (away (bytes_eq name (name_of t)) refl p) ∙ h
      by (Some m) p = h

-- ---- possible types

abbrev noted : Bool → Text → List Text → List Text
noted true n names = with_name names n
noted false n names = names

among_last : (names : List Text) (n : Text) → is_among n (names ++ n ∷ []) ≡ true
among_last [] n = ap (λ b. b || false) (itself n)
among_last (x ∷ names) n = by (bytes_eq n x) (among_last names n)
  where
    by : (b : Bool) → is_among n (names ++ n ∷ []) ≡ true → b || is_among n (names ++ n ∷ []) ≡ true
    by true rest = refl
    by false rest = rest

-- a name is noted once
with_name-twice : (names : List Text) (n : Text) → with_name (with_name names n) n ≡ with_name names n
with_name-twice names n = by (is_among n names) refl
  where
    by : (b : Bool) → is_among n names ≡ b → with_name (if b then names else names ++ n ∷ []) n ≡ (if b then names else names ++ n ∷ [])
    by true p = ap (λ b. if b then names else names ++ n ∷ []) p
    by false p = ap (λ b. if b then names ++ n ∷ [] else (names ++ n ∷ []) ++ n ∷ []) (among_last names n)

noted-twice : (a b : Bool) (n : Text) (names : List Text) → noted b n (noted a n names) ≡ noted (a || b) n names
noted-twice true true n names = with_name-twice names n
noted-twice true false n names = refl
noted-twice false b n names = refl

noted_new : (b : Bool) (n : Text) (names : List Text) → is_among n names ≡ false → noted b n names ≡ names ++ cond b (n ∷ []) []
noted_new true n names new = ap (λ b. if b then names else names ++ n ∷ []) new
noted_new false n names new = sym (append-nil names)

fewer_noted : (b : Bool) (n : Text) (names : List Text) (m : Text) → bytes_eq m n || is_among m names ≡ false → is_among m (names ++ cond b (n ∷ []) []) ≡ false
fewer_noted b n [] m h = by b
  where
    by : (b : Bool) → is_among m (cond b (n ∷ []) []) ≡ false
    by true = h
    by false = refl
fewer_noted b n (x ∷ names) m h =
    let parts = either_not (bytes_eq m n) (bytes_eq m x || is_among m names) h in
    let more = either_not (bytes_eq m x) (is_among m names) parts.1 in
    ap (λ c. c || is_among m (names ++ cond b (n ∷ []) [])) more.0 ∙ fewer_noted b n names m (ap (λ c. c || is_among m names) parts.0 ∙ more.1)

object_name : (type : TypeParts) (o : ObjectParts) → object_of type ≡ Some o → type_name type ≡ o.name
object_name (scalar t) o e = cc e
object_name (object t) o e = cc e
object_name (input_object t) o e = cc e
object_name (enum t) o e = cc e
object_name (interface t) o e = cc e
object_name (union t) o e = cc e
object_name (subscription t) o e = cc e
object_name upload o e = cc e

module _ (name : Text) (parts : InterfaceParts) where
  abbrev known : List Text → Meta
  known names = possible_among names (interface_meta parts)

  possible_one : (wanted n : Text) (names : List Text) (before : Contents) → at_text name before.types ≡ Some (known names)
      → at_text name (made before (possible_type wanted n)).types ≡ Some (known (noted (bytes_eq name wanted) n names))
  possible_one wanted n names before h = by (bytes_eq name wanted) refl
    where
      here : Option Meta → List (Text × Meta)
      here found = option_map_or (λ type. set_value (bytes_eq name) before.types (with_possible n type)) found before.types

      away : (o : Option Meta) → bytes_eq name wanted ≡ false → at_text name (option_map_or (λ type. set_value (bytes_eq wanted) before.types (with_possible n type)) o before.types) ≡ Some (known names)
      away None p = h
      away (Some m) p = set_apart name wanted before.types (with_possible n m) p ∙ h

      by : (b : Bool) → bytes_eq name wanted ≡ b → at_text name (made before (possible_type wanted n)).types ≡ Some (known (noted b n names))
      by true p = subst (λ i. at_text name (made before (possible_type i n)).types ≡ Some (known (with_name names n))) ((bytes_eq-Decides name wanted).0 p)
          (ap (λ found. at_text name (here found)) h ∙ set_here name before.types (known names) (known (with_name names n)) h)
      by false p = away (at_text wanted before.types) p

  possible_all : (interfaces : List Text) (n : Text) (names : List Text) (before : Contents) → at_text name before.types ≡ Some (known names)
      → at_text name (all_made before (map (λ wanted. possible_type wanted n) interfaces)).types ≡ Some (known (noted (is_among name interfaces) n names))
  unfolding all_made
  possible_all [] n names before h = h
  possible_all (i ∷ others) n names before h =
      possible_all others n (noted (bytes_eq name i) n names) (made before (possible_type i n)) (possible_one i n names before h)
      ∙ ap (λ names. Some (known names)) (noted-twice (bytes_eq name i) (is_among name others) n names)

  -- the implementers of each type in turn
  implementers_noted : (types : List TypeParts) (names : List Text) (before : Contents) → AreFree (map type_name types) names → at_text name before.types ≡ Some (known names)
      → at_text name (all_made before (flat_map possible_steps types)).types ≡ Some (known (names ++ flat_map (implementer name) types))
  unfolding all_made
  implementers_noted [] names before free h = h ∙ ap (λ names. Some (known names)) (sym (append-nil names))
  implementers_noted (t ∷ ts) names before free h = by (object_of t) refl (implementers_noted ts)
    where
      rest : List Step
      rest = flat_map possible_steps ts

      by : (o : Option ObjectParts) → object_of t ≡ o
          → ((names : List Text) (before : Contents) → AreFree (map type_name ts) names → at_text name before.types ≡ Some (known names)
          → at_text name (all_made before (flat_map possible_steps ts)).types ≡ Some (known (names ++ flat_map (implementer name) ts)))
          → at_text name (all_made before (option_map_or object_steps o [] ++ flat_map possible_steps ts)).types
          ≡ Some (known (names ++ (option_map_or (λ object. cond (is_among name object.implements) (object.name ∷ []) []) o [] ++ flat_map (implementer name) ts)))
      by None p later = later names before (free_fewer (map type_name ts) (type_name t ∷ names) names (λ m k. (either_not (bytes_eq m (type_name t)) (is_among m names) k).1) free.1) h
      by (Some o) p later =
          let declared : Bool = is_among name o.implements in
          let own : type_name t ≡ o.name = object_name t o p in
          let new : is_among o.name names ≡ false = subst (λ n. is_among n names ≡ false) own free.0 in
          let more : List Text = names ++ cond declared (o.name ∷ []) [] in
          ap (λ contents. at_text name contents.types) (all_made-append before (object_steps o) rest)
          ∙ later more (all_made before (object_steps o))
          (free_fewer (map type_name ts) (o.name ∷ names) more (fewer_noted declared o.name names) (subst (λ n. AreFree (map type_name ts) (n ∷ names)) own free.1))
          (possible_all o.implements o.name names before h ∙ ap (λ names. Some (known names)) (noted_new declared o.name names new))
          ∙ ap (λ names. Some (known names)) (append_assoc names (cond declared (o.name ∷ []) []) (flat_map (implementer name) ts))

  -- an interface that is the root of queries gets no fields
  fields_apart : (fields : List Field) (names : List Text) (before : Contents) → at_text name before.types ≡ Some (known names) → at_text name (all_made before (map query_field fields)).types ≡ Some (known names)
  unfolding all_made
  fields_apart [] names before h = h
  fields_apart (f ∷ fs) names before h = fields_apart fs names (made before (query_field f)) (by (bytes_eq name before.query) refl)
    where
      here : Option Meta → List (Text × Meta)
      here found = option_map_or (λ type. set_value (bytes_eq name) before.types (object_with f type)) found before.types

      away : (o : Option Meta) → bytes_eq name before.query ≡ false → at_text name (option_map_or (λ type. set_value (bytes_eq before.query) before.types (object_with f type)) o before.types) ≡ Some (known names)
      away None p = h
      away (Some m) p = set_apart name before.query before.types (object_with f m) p ∙ h

      by : (b : Bool) → bytes_eq name before.query ≡ b → at_text name (made before (query_field f)).types ≡ Some (known names)
      by true p = subst (λ query. at_text name (option_map_or (λ type. set_value (bytes_eq query) before.types (object_with f type)) (at_text query before.types) before.types) ≡ Some (known names))
          ((bytes_eq-Decides name before.query).0 p)
          (ap (λ found. at_text name (here found)) h ∙ set_here name before.types (known names) (known names) h)
      by false p = away (at_text before.query before.types) p

  told : (is_disabled : Bool) (names : List Text) (before : Contents) → at_text name before.types ≡ Some (known names) → at_text name (all_made before (telling_steps is_disabled)).types ≡ Some (known names)
  unfolding all_made
  told true names before h = h
  told false names before h =
      ap (λ contents. at_text name contents.types) (all_made-append before (map missing_type introspection_types) (map query_field query_fields))
      ∙ fields_apart query_fields names (all_made before (map missing_type introspection_types)) (missing_apart name introspection_types before (known names) h)

-- ---- the registry of a schema

pub knows_implementers : (recorded : Recorded) → HasOwnNames recorded.schema → HasDifferentNames recorded.schema → KnowsImplementers recorded.schema (schema_contents recorded)
knows_implementers recorded own different name parts found =
    let types = types_in recorded.schema in
    let free = names_apart recorded.schema own different in
    let registered = type_contents recorded in
    let directed = directive_contents recorded in
    let there = types_there name recorded.schema.types [] (interface parts) own free found (system_contents recorded) in
    let kept : at_text name directed.types ≡ Some (known name parts []) = ap (at_text name) (directives_apart name recorded.directives registered) ∙ there in
    told name parts recorded.is_disabled (flat_map (implementer name) types) (possible_contents recorded) (implementers_noted name parts types [] directed free kept)

-- Names stay in order under each addition.
use Rattle.std.proofs.Common.{◌≡◌, Bool, true, false, cond, ◌&&◌, List, [], ◌∷◌, map, flat_map, refl, ap, sym, subst, ◌∙◌, Some, None}
use Rattle.std.specs.declared.option.Option.{Option}
use Rattle.std.specs.declared.cmp.Ordering.{Ordering}
use Rattle.std.specs.declared.cmp.Ordering.TheVariants.{Less, Equal, Greater}
use Rattle.std.specs.Option.{option_map_or}
use Rattle.std.specs.List.{list_all}
use Rattle.std.specs.Map.{set_value, keys_of}
use Rattle.std.specs.Str.{bytes_eq}
use Rattle.std.specs.BTreeMap.{insert_entry}
use Rattle.std.specs.Ordering.{match_ordering, is_lt, ordering_reverse}
use Rattle.std.specs.Cmp.Lexicographic.{nat_list_cmp_total}
use Rattle.gql_registry_meta.specs.Parts.{Text, text_cmp, at_text, Meta, name_of}
use Rattle.gql_registry.specs.Registry.{Contents, with_possible}
use Rattle.gql_registry.specs.Additions.{Step, directive, missing_type, query_field, implementing_type, possible_type, made, all_made, object_with, system_steps}
use Rattle.gql_sdl_view.specs.Ordered.{goes_before}
use Rattle.gql_check.specs.Recorded.{Recorded, types_in, type_step, possible_steps, telling_steps, roots_alone, system_contents, type_contents, directive_contents, possible_contents, schema_contents}
use Rattle.gql_publish_document.specs.Standing.{IsAscending}

both : (a b : Bool) → a && b ≡ true → (a ≡ true) × (b ≡ true)
both true b e = (refl, e)
both false b e = absurd cc

and_true : (a b : Bool) → a ≡ true → b ≡ true → a && b ≡ true
and_true true b p q = q
and_true false b p q = absurd cc

less : (o : Ordering) → is_lt o ≡ true → o ≡ Less
less Less e = refl
less Equal e = absurd cc
less Greater e = absurd cc

chain : (a b c : Text) → goes_before a b ≡ true → goes_before b c ≡ true → goes_before a c ≡ true
chain a b c p q = ap is_lt (nat_list_cmp_total.trans a b c (less (text_cmp a b) p) (less (text_cmp b c) q))

after_greater : (t k : Text) → text_cmp t k ≡ Greater → goes_before k t ≡ true
after_greater t k e = ap is_lt (nat_list_cmp_total.antisymm k t ∙ ap ordering_reverse e)

all_after : (a b : Text) (names : List Text) → goes_before a b ≡ true → list_all (goes_before b) names ≡ true → list_all (goes_before a) names ≡ true
all_after a b [] p q = refl
all_after a b (n ∷ ns) p q =
    let parts = both (goes_before b n) (list_all (goes_before b) ns) q in
    and_true (goes_before a n) (list_all (goes_before a) ns) (chain a b n p parts.0) (all_after a b ns p parts.1)

module _ {X : Type 0} (t : Text) (v : X) where
  all_insert : (p : Text → Bool) (es : List (Text × X)) → p t ≡ true → list_all p (keys_of es) ≡ true → list_all p (keys_of (insert_entry text_cmp es t v)) ≡ true
  all_insert p [] own all = and_true (p t) true own refl
  all_insert p (e ∷ es) own all = by (text_cmp t e.0) (all_insert p es own (both (p e.0) (list_all p (keys_of es)) all).1)
    where
      parts : (p e.0 ≡ true) × (list_all p (keys_of es) ≡ true)
      parts = both (p e.0) (list_all p (keys_of es)) all

      by : (o : Ordering) → list_all p (keys_of (insert_entry text_cmp es t v)) ≡ true
          → list_all p (keys_of (match_ordering o ((t, v) ∷ e ∷ es) ((e.0, v) ∷ es) (e ∷ insert_entry text_cmp es t v))) ≡ true
      by Less rest = and_true (p t) (p e.0 && list_all p (keys_of es)) own all
      by Equal rest = all
      by Greater rest = and_true (p e.0) (list_all p (keys_of (insert_entry text_cmp es t v))) parts.0 rest

  pub ascending-insert : (es : List (Text × X)) → IsAscending (keys_of es) → IsAscending (keys_of (insert_entry text_cmp es t v))
  ascending-insert [] h = (refl, tt)
  ascending-insert (e ∷ es) h = by (text_cmp t e.0) refl (ascending-insert es h.1)
    where
      by : (o : Ordering) → text_cmp t e.0 ≡ o → IsAscending (keys_of (insert_entry text_cmp es t v))
          → IsAscending (keys_of (match_ordering o ((t, v) ∷ e ∷ es) ((e.0, v) ∷ es) (e ∷ insert_entry text_cmp es t v)))
      by Less p rest =
          let first : goes_before t e.0 ≡ true = ap is_lt p in
          (and_true (goes_before t e.0) (list_all (goes_before t) (keys_of es)) first (all_after t e.0 (keys_of es) first h.0), h)
      by Equal p rest = h
      by Greater p rest = (all_insert (goes_before e.0) es (after_greater t e.0 p) h.0, rest)

keys-set : {X : Type 0} (test : Text → Bool) (es : List (Text × X)) (w : X) → keys_of (set_value test es w) ≡ keys_of es
keys-set test [] w = refl
keys-set test (e ∷ es) w = by (test e.0) (keys-set test es w)
  where
    by : (b : Bool) → keys_of (set_value test es w) ≡ keys_of es → keys_of (cond b ((e.0, w) ∷ es) (e ∷ set_value test es w)) ≡ e.0 ∷ keys_of es
    by true rest = refl
    by false rest = ap (λ l. e.0 ∷ l) rest

-- types and directives stand in the order of their names
abbrev pub Ascends : Contents → Type 0
Ascends contents = IsAscending (keys_of contents.types) × IsAscending (keys_of contents.directives)

ascends-made : (before : Contents) (step : Step) → Ascends before → Ascends (made before step)
ascends-made before (directive d) h = (h.0, ascending-insert d.name d before.directives h.1)
ascends-made before (missing_type t) h = (by (at_text (name_of t) before.types), h.1)
  where
    by : (o : Option Meta) → IsAscending (keys_of (option_map_or (λ _. before.types) o (insert_entry text_cmp before.types (name_of t) t)))
    by None = ascending-insert (name_of t) t before.types h.0
    by (Some m) = h.0
ascends-made before (query_field f) h = (by (at_text before.query before.types), h.1)
  where
    by : (o : Option Meta) → IsAscending (keys_of (option_map_or (λ type. set_value (bytes_eq before.query) before.types (object_with f type)) o before.types))
    by None = h.0
    by (Some m) = subst IsAscending (sym (keys-set (bytes_eq before.query) before.types (object_with f m))) h.0
ascends-made before (implementing_type t names) h = (ascending-insert (name_of t) t before.types h.0, h.1)
ascends-made before (possible_type i n) h = (by (at_text i before.types), h.1)
  where
    by : (o : Option Meta) → IsAscending (keys_of (option_map_or (λ type. set_value (bytes_eq i) before.types (with_possible n type)) o before.types))
    by None = h.0
    by (Some m) = subst IsAscending (sym (keys-set (bytes_eq i) before.types (with_possible n m))) h.0

ascends-all : (steps : List Step) (before : Contents) → Ascends before → Ascends (all_made before steps)
unfolding all_made
ascends-all [] before h = h
ascends-all (s ∷ ss) before h = ascends-all ss (made before s) (ascends-made before s h)

-- in what the registry of a schema holds
pub ascends_schema : (recorded : Recorded) → Ascends (schema_contents recorded)
ascends_schema recorded =
    ascends-all (telling_steps recorded.is_disabled) (possible_contents recorded)
    (ascends-all (flat_map possible_steps (types_in recorded.schema)) (directive_contents recorded)
    (ascends-all (map directive recorded.directives) (type_contents recorded)
    (ascends-all (map type_step (types_in recorded.schema)) (system_contents recorded)
    (ascends-all system_steps (roots_alone recorded) (tt, tt)))))

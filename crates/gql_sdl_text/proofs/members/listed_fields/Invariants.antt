use Rattle.std.proofs.Common.{◌≡◌, ◌++◌, ◌||◌, not, map, filter}
use Rattle.gql_text_lexer.specs.Forms.{is_reserved}
use Rattle.gql_registry_meta.specs.Views.{text_of}
use Rattle.gql_sdl_text.proofs.members.listed_fields.Given as goal

abbrev pub invariant-loop-field : goal.invariant-loop-field
invariant-loop-field l =
    map (λ f. f.now) l.kept.items ++ filter (λ f. l.with_reserved || not (is_reserved (text_of f.name))) l.field-iterator
    ≡ filter (λ f. l.with_reserved || not (is_reserved (text_of f.name))) l.initial.field-iterator

-- What a proof unfolds together: the rows of the grammar, and the forms of its types and values.
use Rattle.gql_text_syntax.specs.Types.{named, plain_with, type_with, list_with, bracketed}
use Rattle.gql_text_syntax.specs.Values.{key, number, string, word, leaf, refused_number, bracketed_list, entry, object, value_with, nest_with, nested}
use Rattle.gql_text_syntax.specs.Grammar as g

-- what repeats an item
unfoldable pub repetitions : Unit {0}
unfolding g.braced g.body g.parenthesized g.arguments g.next g.joined
repetitions = tt

-- what stands in a definition
unfoldable pub members : Unit {0}
unfolding key g.described g.description g.argument g.directive_use g.default_value g.input_value g.field g.enum_value g.root g.location
members = tt

-- the definitions
unfoldable pub definitions : Unit {0}
unfolding g.roots g.schema_block g.scalar g.implements g.object_like g.object g.«interface» g.members_given g.members g.union_type g.enum_type g.input g.directive g.type_kind g.kind g.described_definition g.extension g.definition
definitions = tt

-- all rows down to types and values
unfoldable pub rows : Unit {0}
unfolding repetitions members definitions g.document
rows = tt

-- the forms of a type
unfoldable pub types : Unit {0}
unfolding named plain_with type_with list_with bracketed
types = tt

-- the forms of a value
unfoldable pub values : Unit {0}
unfolding key number string word leaf refused_number bracketed_list entry object value_with nest_with nested
values = tt

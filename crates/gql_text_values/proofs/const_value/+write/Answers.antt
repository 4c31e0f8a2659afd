use Rattle.std.proofs.Common.{rules, append_assoc}
use Rattle.gql_text_values.proofs.Writing.{list_text, object_text}
use Rattle.gql_text_values.proofs.const_value.+write.Goals as goal

pub ConstValue::write-returns-in_ok-push_str-in-List-2 :
    goal.ConstValue::write-returns-in_ok-push_str-in-List-2
ConstValue::write-returns-in_ok-push_str-in-List-2 t c =
    let text = list_text c.in-List.items in
    rw (c.in-List.is, text) (search (rules, append_assoc))

pub ConstValue::write-returns-in_ok-push_str-in-Object-2 :
    goal.ConstValue::write-returns-in_ok-push_str-in-Object-2
ConstValue::write-returns-in_ok-push_str-in-Object-2 t c =
    let text = object_text c.in-Object.entries in
    rw (c.in-Object.is, text) (search (rules, append_assoc))

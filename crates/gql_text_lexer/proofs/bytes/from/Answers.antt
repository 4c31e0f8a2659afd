use Rattle.std.proofs.Common.{◌≡◌, ◌-◌, length, drop, sym, length-drop}
use Rattle.std.proofs.Math.Seq.{take-length}
use Rattle.gql_text_lexer.proofs.bytes.from.Goals as goal

pub returns : goal.returns
returns c = let e : length c.args.text.now - c.args.n ≡ length (drop c.args.n c.args.text.now) = sym (length-drop c.args.n c.args.text.now) in rw e (take-length (drop c.args.n c.args.text.now))

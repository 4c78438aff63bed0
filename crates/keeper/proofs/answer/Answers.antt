use Rattle.std.proofs.Common.{rules}
use Rattle.keeper.proofs.answer.Goals as goal

pub returns-in_err-write_reply : goal.returns-in_err-write_reply
returns-in_err-write_reply g c = (c.reply-reply.result, c.reply-reply.ensures, search rules)

pub returns-in_err-flush : goal.returns-in_err-flush
returns-in_err-flush g c = (c.reply-reply.result, c.reply-reply.ensures, search rules)

pub returns : goal.returns
returns g c = (c.reply-reply.result, c.reply-reply.ensures, search rules)

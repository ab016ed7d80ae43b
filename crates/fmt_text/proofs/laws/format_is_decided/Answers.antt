use Rattle.fmt_text.proofs.Decided.{format_read, read_is_format, bad_unread}
use Rattle.fmt_text.proofs.laws.format_is_decided.Goals as goal

pub returns-clause-read : goal.returns-clause-read
returns-clause-read c = format_read

pub returns-clause-format : goal.returns-clause-format
returns-clause-format c = read_is_format

pub returns-clause-bad : goal.returns-clause-bad
returns-clause-bad c = bad_unread

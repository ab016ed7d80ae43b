-- The context of the parts that its bytes are written of.
use Rattle.bt_core.specs.declared.context.Context.{Context}
use Rattle.bt_core.specs.Text.{short_text}
use Rattle.event_record.specs.declared.contexts.ContextParts.{ContextParts}

abbrev pub context_of : ContextParts → Context
context_of parts = record {
  time = parts.time;
  start = parts.start;
  pid = parts.pid;
  tid = parts.tid;
  uid = parts.uid;
  gid = parts.gid;
  cpu = parts.cpu;
  comm = short_text parts.comm.now;
  payload_len = parts.payload_len;
}

use Rattle.top_refusals.proofs.tell.tell_fault.Goals as goal

pub returns-in-Text : goal.returns-in-Text
returns-in-Text g c = rw c.in-Text.is c.tell_text.ensures

pub returns-in-Numbered : goal.returns-in-Numbered
returns-in-Numbered g c = rw c.in-Numbered.is c.tell_numbered.ensures

pub returns-in-Count : goal.returns-in-Count
returns-in-Count g c = rw c.in-Count.is c.tell_count.ensures

pub returns-in-Format : goal.returns-in-Format
returns-in-Format g c = rw c.in-Format.is c.tell_format.ensures

pub returns-in-Entry : goal.returns-in-Entry
returns-in-Entry g c = rw c.in-Entry.is c.tell_event.ensures

-- What is written of a run, in either form.
use Rattle.std.specs.Prelude.{ℕ, List}
use Rattle.bt_core.specs.declared.step.Step.{Step}
use Rattle.bt_meaning.specs.Prints.{printed_text}
use Rattle.typed_tree.specs.declared.script.Typed.{Typed}
use Rattle.run_output.specs.declared.form.Form.{Form}
use Rattle.run_output.specs.declared.form.Form.TheVariants.{Text, Json}
use Rattle.run_output.specs.JsonLines.{json_text_of}

-- Of a script's steps, with so many CPUs: the text that they print, or their JSON lines.
abbrev pub output_of : Form → Typed → ℕ → List Step → List ℕ
output_of Text script cpus steps = printed_text script cpus steps
output_of Json script cpus steps = json_text_of script cpus steps

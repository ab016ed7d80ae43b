-- The script of `big`, and the format text of a made recording.
use Rattle.std.specs.Prelude.{ℕ, List, ◌++◌, codes}

abbrev pub big_script : List ℕ
big_script = codes "tracepoint:raw_syscalls:sys_enter { @calls[comm] = count(); @ids = hist(args.id); @sum = sum(args.id); }"

-- the format of the start of a system call, as tracefs shows it
abbrev pub made_text : List ℕ
made_text =
    codes "name: sys_enter\n" ++ (
    codes "ID: 21\n" ++ (
    codes "format:\n" ++ (
    codes "\tfield:unsigned short common_type;\toffset:0;\tsize:2;\tsigned:0;\n" ++ (
    codes "\tfield:unsigned char common_flags;\toffset:2;\tsize:1;\tsigned:0;\n" ++ (
    codes "\tfield:unsigned char common_preempt_count;\toffset:3;\tsize:1;\tsigned:0;\n" ++ (
    codes "\tfield:int common_pid;\toffset:4;\tsize:4;\tsigned:1;\n" ++ (
    codes "\n" ++ (
    codes "\tfield:long id;\toffset:8;\tsize:8;\tsigned:1;\n" ++ (
    codes "\tfield:unsigned long args[6];\toffset:16;\tsize:48;\tsigned:0;\n" ++ (
    codes "\n" ++ (
    codes "print fmt: \"NR %ld\", REC->id\n")))))))))))

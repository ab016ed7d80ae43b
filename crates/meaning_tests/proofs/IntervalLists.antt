-- The lists in which two CPUs count and ticks print, or print and clear, are interleavings, whatever the instructions.
use Rattle.std.proofs.Common.{◌≡◌, ℕ, ◌+◌, refl, true, List, []}
use Rattle.std.specs.Int.{int_wrap}
use Rattle.std.proofs.lemmas.List.Elements.{All-nil}
use Rattle.bt_core.specs.declared.step.Step.{Step}
use Rattle.bt_core.specs.Interaction.{Ended}
use Rattle.bt_core.specs.Steps.{of_actor}
use Rattle.actor_plan.specs.Agendas.{agenda_of}
use Rattle.map_rows.specs.Merged.{merged}
use Rattle.bt_meaning.specs.Interleavings.{IsInterleaving, IsWhole}
use Rattle.bt_meaning.specs.Replays.{answers_of, cpu_of}
use Rattle.bt_meaning.specs.Schedules.{serial_order}
use Rattle.bt_meaning.specs.Serial.{serial_steps}
use Rattle.meaning_tests.specs.Intervals.{first_three, first_two, replaying, three_and_one, two_and_one, two_and_two}
use Rattle.meaning_tests.specs.Written.{clears, prints}
use Rattle.meaning_tests.proofs.Checking.{by_cpus, follow, two_cases}

module _ (sizes : List ℕ) (m n : ℕ) where
  pub prints_two : IsInterleaving (replaying sizes m (prints 3 (Ended n))) first_two
  unfolding merged agenda_of int_wrap
  prints_two = record {
    first = [];
    middle = first_two;
    last = [];
    parts = refl;
    begin_is_main = All-nil (λ (s : Step). s.actor ≡ 2);
    begin = record { value = 0; runs = refl };
    middle_is_cpus = by_cpus 2 first_two refl;
    each_cpu = two_cases (λ cpu. IsWhole (cpu_of (replaying sizes m (prints 3 (Ended n))) cpu) (of_actor cpu first_two))
        (record { value = record { to_end = true; instructions = (m + 0) + (0 + ((m + 0) + (0 + 0))) }; runs = (refl, (refl, (refl, (refl, refl)))) })
        (record { value = record { to_end = true; instructions = (m + 0) + (n + ((m + 0) + (n + 0))) }; runs = (refl, (refl, (refl, (refl, (refl, (refl, (refl, (refl, (refl, (refl, (refl, (refl, refl)))))))))))) });
    end_is_main = All-nil (λ (s : Step). s.actor ≡ 2);
    end = record { value = 0; runs = refl };
    replies = follow (answers_of (replaying sizes m (prints 3 (Ended n)))) first_two (refl, (refl, (refl, (refl, (refl, (refl, (refl, (refl, (refl, (refl, (refl, (refl, (refl, (refl, (refl, (refl, tt))))))))))))))));
  }

  pub prints_two_serial : serial_steps (replaying sizes m (prints 3 (Ended n))) ≡ first_two
  unfolding serial_steps serial_order merged int_wrap
  prints_two_serial = refl

  pub prints_three : IsInterleaving (replaying sizes m (prints 3 (Ended n))) first_three
  unfolding merged agenda_of int_wrap
  prints_three = record {
    first = [];
    middle = first_three;
    last = [];
    parts = refl;
    begin_is_main = All-nil (λ (s : Step). s.actor ≡ 2);
    begin = record { value = 0; runs = refl };
    middle_is_cpus = by_cpus 2 first_three refl;
    each_cpu = two_cases (λ cpu. IsWhole (cpu_of (replaying sizes m (prints 3 (Ended n))) cpu) (of_actor cpu first_three))
        (record { value = record { to_end = true; instructions = (m + 0) + (0 + ((m + 0) + (0 + 0))) }; runs = (refl, (refl, (refl, (refl, refl)))) })
        (record { value = record { to_end = true; instructions = (m + 0) + (n + ((m + 0) + (n + 0))) }; runs = (refl, (refl, (refl, (refl, (refl, (refl, (refl, (refl, (refl, (refl, (refl, (refl, refl)))))))))))) });
    end_is_main = All-nil (λ (s : Step). s.actor ≡ 2);
    end = record { value = 0; runs = refl };
    replies = follow (answers_of (replaying sizes m (prints 3 (Ended n)))) first_three (refl, (refl, (refl, (refl, (refl, (refl, (refl, (refl, (refl, (refl, (refl, (refl, (refl, (refl, (refl, (refl, tt))))))))))))))));
  }

  pub clears_two_and_two : IsInterleaving (replaying sizes m (prints 3 (clears 3 n))) two_and_two
  unfolding merged agenda_of int_wrap
  clears_two_and_two = record {
    first = [];
    middle = two_and_two;
    last = [];
    parts = refl;
    begin_is_main = All-nil (λ (s : Step). s.actor ≡ 2);
    begin = record { value = 0; runs = refl };
    middle_is_cpus = by_cpus 2 two_and_two refl;
    each_cpu = two_cases (λ cpu. IsWhole (cpu_of (replaying sizes m (prints 3 (clears 3 n))) cpu) (of_actor cpu two_and_two))
        (record { value = record { to_end = true; instructions = (m + 0) + (0 + ((m + 0) + (0 + 0))) }; runs = (refl, (refl, (refl, (refl, refl)))) })
        (record { value = record { to_end = true; instructions = (m + 0) + (n + ((m + 0) + (n + 0))) }; runs = (refl, (refl, (refl, (refl, (refl, (refl, (refl, (refl, (refl, (refl, (refl, (refl, (refl, (refl, (refl, (refl, (refl, (refl, refl)))))))))))))))))) });
    end_is_main = All-nil (λ (s : Step). s.actor ≡ 2);
    end = record { value = 0; runs = refl };
    replies = follow (answers_of (replaying sizes m (prints 3 (clears 3 n)))) two_and_two (refl, (refl, (refl, (refl, (refl, (refl, (refl, (refl, (refl, (refl, (refl, (refl, (refl, (refl, (refl, (refl, (refl, (refl, (refl, (refl, (refl, (refl, tt))))))))))))))))))))));
  }

  pub clears_two_and_two_serial : serial_steps (replaying sizes m (prints 3 (clears 3 n))) ≡ two_and_two
  unfolding serial_steps serial_order merged int_wrap
  clears_two_and_two_serial = refl

  pub clears_three_and_one : IsInterleaving (replaying sizes m (prints 3 (clears 3 n))) three_and_one
  unfolding merged agenda_of int_wrap
  clears_three_and_one = record {
    first = [];
    middle = three_and_one;
    last = [];
    parts = refl;
    begin_is_main = All-nil (λ (s : Step). s.actor ≡ 2);
    begin = record { value = 0; runs = refl };
    middle_is_cpus = by_cpus 2 three_and_one refl;
    each_cpu = two_cases (λ cpu. IsWhole (cpu_of (replaying sizes m (prints 3 (clears 3 n))) cpu) (of_actor cpu three_and_one))
        (record { value = record { to_end = true; instructions = (m + 0) + (0 + ((m + 0) + (0 + 0))) }; runs = (refl, (refl, (refl, (refl, refl)))) })
        (record { value = record { to_end = true; instructions = (m + 0) + (n + ((m + 0) + (n + 0))) }; runs = (refl, (refl, (refl, (refl, (refl, (refl, (refl, (refl, (refl, (refl, (refl, (refl, (refl, (refl, (refl, (refl, (refl, (refl, refl)))))))))))))))))) });
    end_is_main = All-nil (λ (s : Step). s.actor ≡ 2);
    end = record { value = 0; runs = refl };
    replies = follow (answers_of (replaying sizes m (prints 3 (clears 3 n)))) three_and_one (refl, (refl, (refl, (refl, (refl, (refl, (refl, (refl, (refl, (refl, (refl, (refl, (refl, (refl, (refl, (refl, (refl, (refl, (refl, (refl, (refl, (refl, tt))))))))))))))))))))));
  }

  pub clears_two_and_one : IsInterleaving (replaying sizes m (prints 3 (clears 3 n))) two_and_one
  unfolding merged agenda_of int_wrap
  clears_two_and_one = record {
    first = [];
    middle = two_and_one;
    last = [];
    parts = refl;
    begin_is_main = All-nil (λ (s : Step). s.actor ≡ 2);
    begin = record { value = 0; runs = refl };
    middle_is_cpus = by_cpus 2 two_and_one refl;
    each_cpu = two_cases (λ cpu. IsWhole (cpu_of (replaying sizes m (prints 3 (clears 3 n))) cpu) (of_actor cpu two_and_one))
        (record { value = record { to_end = true; instructions = (m + 0) + (0 + ((m + 0) + (0 + 0))) }; runs = (refl, (refl, (refl, (refl, refl)))) })
        (record { value = record { to_end = true; instructions = (m + 0) + (n + ((m + 0) + (n + 0))) }; runs = (refl, (refl, (refl, (refl, (refl, (refl, (refl, (refl, (refl, (refl, (refl, (refl, (refl, (refl, (refl, (refl, (refl, (refl, refl)))))))))))))))))) });
    end_is_main = All-nil (λ (s : Step). s.actor ≡ 2);
    end = record { value = 0; runs = refl };
    replies = follow (answers_of (replaying sizes m (prints 3 (clears 3 n)))) two_and_one (refl, (refl, (refl, (refl, (refl, (refl, (refl, (refl, (refl, (refl, (refl, (refl, (refl, (refl, (refl, (refl, (refl, (refl, (refl, (refl, (refl, (refl, tt))))))))))))))))))))));
  }

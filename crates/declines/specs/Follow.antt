-- What a bystander follows through a log of asks and replies, whatever it is that he keeps: a register write that was
-- carried out and a tick that was, run or held, change it, by rules of his own; every other call leaves it.
--     document 01    "The account of demand 3"; document 02, N4 and N5
--     Rules          how the two change what he keeps
--     after_call      what he keeps after a call
--     after_log       .. and after a whole log; by its type it sees neither record nor memory
-- Own rules of 01 used here: none. Decisions: none. Left out: nothing.
-- Assumes nothing.
use Rattle.std.specs.Prelude.{ℕ, List, [], ◌∷◌}
use Rattle.run.specs.declared.Run.{Run}
use Rattle.registers.specs.Registers.{numbered_of}
use Rattle.registers.specs.declared.register.Register.{Register}
use Rattle.trigger.specs.declared.lines.Inputs.{Inputs}
use Rattle.supervisor.specs.declared.Answer.{Answer}
use Rattle.declines.specs.Answers.{Reply, declined, done, value, ticked}
use Rattle.declines.specs.Runs.{Ask, write_register, read_register, write_memory, read_memory, fill_memory, tick, Entry}

pub record Rules (A : Type 0) : Type 0 where
  pub wrote : Register → Run → (v : ℕ) → A → A
  pub ticked : Inputs → Answer → A → A

-- [Account.5] of the calls that end in "done" a register write alone counts
abbrev pub after_done : {A : Type 0} → Rules A → Ask → A → A
after_done rules (write_register number run v) a = rules.wrote (numbered_of number) run v a
after_done rules (read_register number run) a = a
after_done rules (write_memory place word) a = a
after_done rules (read_memory place) a = a
after_done rules (fill_memory words) a = a
after_done rules (tick x) a = a

abbrev pub after_ticked : {A : Type 0} → Rules A → Ask → Answer → A → A
after_ticked rules (write_register number run v) y a = a
after_ticked rules (read_register number run) y a = a
after_ticked rules (write_memory place word) y a = a
after_ticked rules (read_memory place) y a = a
after_ticked rules (fill_memory words) y a = a
after_ticked rules (tick x) y a = rules.ticked x y a

-- [Account.5] a decline and a value read leave it alone, whatever was asked
abbrev pub after_call : {A : Type 0} → Rules A → Ask → Reply → A → A
after_call rules ask (declined n) a = a
after_call rules ask (value v) a = a
after_call rules ask done a = after_done rules ask a
after_call rules ask (ticked y) a = after_ticked rules ask y a

-- [Account.3]
abbrev pub after_log : {A : Type 0} → Rules A → List Entry → A → A
after_log rules [] a = a
after_log rules (e ∷ es) a = after_log rules es (after_call rules e.ask e.reply a)

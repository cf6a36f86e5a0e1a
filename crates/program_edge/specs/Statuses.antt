-- How a run's end is told: its exit number, and its line on standard error.
use Rattle.std.specs.Prelude.{ℕ, List, [], ◌∷◌, ◌++◌, codes}
use Rattle.std.specs.Fmt.{decimal}
use Rattle.program_edge.specs.declared.status.LineWhy.{LineWhy}
use Rattle.program_edge.specs.declared.status.LineWhy.TheVariants.{Json, Shape, Name, Hex, Range, Scene, NotBuilt}
use Rattle.program_edge.specs.declared.status.Status.{Status}
use Rattle.program_edge.specs.declared.status.Status.TheVariants.{Done, Usage, BadLine, LineLong, InputLong, PoolFull, ReadFault, WriteFault, OutOfMemory, ListenFault, DialFault, SpawnFault, BadGreeting, LinkFault, JournalFull}

abbrev pub why_name : LineWhy → List ℕ
why_name Json = codes "Json"
why_name Shape = codes "Shape"
why_name Name = codes "Name"
why_name Hex = codes "Hex"
why_name Range = codes "Range"
why_name (Scene bad) = codes "Scene"
why_name NotBuilt = codes "NotBuilt"

-- the line for standard error, without its line feed
abbrev pub status_line : Status → List ℕ
status_line Done = codes "Done"
status_line Usage = codes "usage: godot_mp_cli replay, show, rerun, gen N, host --listen ADDR, join --dial ADDR"
status_line (BadLine n why) = codes "line " ++ decimal n ++ codes ": " ++ why_name why
status_line (LineLong n) = codes "line " ++ decimal n ++ codes ": too long"
status_line InputLong = codes "InputLong"
status_line (PoolFull n) = codes "line " ++ decimal n ++ codes ": too many packets"
status_line ReadFault = codes "ReadFault"
status_line WriteFault = codes "WriteFault"
status_line OutOfMemory = codes "OutOfMemory"
status_line ListenFault = codes "ListenFault"
status_line DialFault = codes "DialFault"
status_line SpawnFault = codes "SpawnFault"
status_line BadGreeting = codes "BadGreeting"
status_line LinkFault = codes "LinkFault"
status_line JournalFull = codes "JournalFull"

-- what standard error gets: the line with its line feed, and nothing at the good end
abbrev pub told_text : Status → List ℕ
told_text Done = []
told_text s = status_line s ++ 10 ∷ []

-- the number that the process ends with
abbrev pub exit_number : Status → ℕ
exit_number Done = 0
exit_number Usage = 2
exit_number (BadLine n why) = 3
exit_number (LineLong n) = 4
exit_number InputLong = 5
exit_number (PoolFull n) = 6
exit_number ReadFault = 7
exit_number WriteFault = 8
exit_number OutOfMemory = 9
exit_number ListenFault = 10
exit_number DialFault = 11
exit_number SpawnFault = 12
exit_number BadGreeting = 13
exit_number LinkFault = 14
exit_number JournalFull = 15

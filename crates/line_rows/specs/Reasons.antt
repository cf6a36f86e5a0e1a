-- Wrong lines, each with the reason that comes first.
use Rattle.std.specs.Prelude.{◌≡◌, Err, codes}
use Rattle.program_edge.specs.declared.status.LineWhy.TheVariants.{Json, Shape, Name, Hex, Range, NotBuilt}
use Rattle.line_text.specs.Scenes.{scene_line_read}
use Rattle.line_text.specs.Sessions.{session_line_read}

-- what isn't JSON has no other reason against it
abbrev pub NoJson : Type 0
NoJson = session_line_read (codes "[\"jump\",") ≡ Err Json

-- nor has a line without a byte
abbrev pub NoLine : Type 0
NoLine = session_line_read (codes "") ≡ Err Json

-- a line that is no array
abbrev pub NoArray : Type 0
NoArray = session_line_read (codes "{\"jump\":0}") ≡ Err Shape

-- an array without an item
abbrev pub NoFirstItem : Type 0
NoFirstItem = session_line_read (codes "[]") ≡ Err Shape

-- a number in the word's place
abbrev pub NoWord : Type 0
NoWord = session_line_read (codes "[5]") ≡ Err Shape

-- an unknown word
abbrev pub UnknownWord : Type 0
UnknownWord = session_line_read (codes "[\"jump\"]") ≡ Err Name

-- the word comes before the length
abbrev pub WordBeforeLength : Type 0
WordBeforeLength = session_line_read (codes "[\"jump\",1,2]") ≡ Err Name

-- a known word with another length
abbrev pub LengthOfALine : Type 0
LengthOfALine = session_line_read (codes "[\"rel\",1]") ≡ Err Shape

-- the length comes before the items
abbrev pub LengthBeforeItems : Type 0
LengthBeforeItems = session_line_read (codes "[\"rel\",0]") ≡ Err Shape

-- of two wrong items the first: a range
abbrev pub FirstItemFirst : Type 0
FirstItemFirst = session_line_read (codes "[\"rel\",0,\"2\"]") ≡ Err Range

-- and a shape
abbrev pub SecondItemSecond : Type 0
SecondItemSecond = session_line_read (codes "[\"rel\",\"1\",0]") ≡ Err Shape

-- the peer comes before the operation
abbrev pub PeerBeforeOperation : Type 0
PeerBeforeOperation = session_line_read (codes "[\"op\",0,[\"jump\"]]") ≡ Err Range

-- an operation of an unknown word
abbrev pub UnknownOperation : Type 0
UnknownOperation = session_line_read (codes "[\"op\",1,[\"jump\"]]") ≡ Err Name

-- a word that isn't built, whatever stands behind it
abbrev pub WordNotBuilt : Type 0
WordNotBuilt = session_line_read (codes "[\"loose\"]") ≡ Err NotBuilt

-- and one of an operation
abbrev pub OperationNotBuilt : Type 0
OperationNotBuilt = session_line_read (codes "[\"op\",1,[\"call\",0]]") ≡ Err NotBuilt

-- a client of no number
abbrev pub DownOfNoNumber : Type 0
DownOfNoNumber = session_line_read (codes "[\"down\",0]") ≡ Err Range

-- the length of a custom spawn before its name
abbrev pub CustomOfTwo : Type 0
CustomOfTwo = session_line_read (codes "[\"op\",1,[\"custom\",\"s\",0]]") ≡ Err Shape

-- the place of a synchronizer before what is set there
abbrev pub PlaceBeforeSetting : Type 0
PlaceBeforeSetting = session_line_read (codes "[\"op\",1,[\"public\",[\"s\",-1],0]]") ≡ Err Range

-- the peer for whom a synchronizer is set before whether it is
abbrev pub PeerBeforeSetting : Type 0
PeerBeforeSetting = session_line_read (codes "[\"op\",1,[\"for\",[\"s\",0],0,2]]") ≡ Err Range

-- each peer of a filter
abbrev pub FilterOfNoNumber : Type 0
FilterOfNoNumber = session_line_read (codes "[\"op\",1,[\"filter\",[\"s\",0],[2,2147483648]]]") ≡ Err Range

-- a peer below 1
abbrev pub PeerOfNoNumber : Type 0
PeerOfNoNumber = session_line_read (codes "[\"report\",-1]") ≡ Err Range

-- U+0000 in a text that has to be a word
abbrev pub ZeroInAWord : Type 0
ZeroInAWord = session_line_read (codes "[\"\\u0000\"]") ≡ Err Name

-- and in one that is kept
abbrev pub ZeroInAText : Type 0
ZeroInAText = session_line_read (codes "[\"op\",1,[\"set\",\"\\u0000\",\"v\",0]]") ≡ Err Range

-- and in hexadecimal
abbrev pub ZeroInDigits : Type 0
ZeroInDigits = session_line_read (codes "[\"op\",1,[\"set\",\"s\",\"v\",{\"bytes\":\"0\\u0000\"}]]") ≡ Err Hex

-- a value is read whole before it is judged
abbrev pub ValueReadWhole : Type 0
ValueReadWhole = session_line_read (codes "[\"op\",1,[\"set\",\"s\",\"v\",[{\"ints\":[6,[1]]},{\"bytes\":\"0g\"}]]]") ≡ Err Hex

-- and judged before what stands to its right
abbrev pub ValueJudgedByItself : Type 0
ValueJudgedByItself = session_line_read (codes "[\"op\",1,[\"spawn\",\"s\",\"p\",\"n\",[[\"v\",{\"ints\":[6,[1]]}],[\"w\",{\"bytes\":\"0g\"}]]]]") ≡ Err Range

-- a value of two known keys
abbrev pub TwoKnownKeys : Type 0
TwoKnownKeys = session_line_read (codes "[\"op\",1,[\"set\",\"s\",\"v\",{\"bytes\":\"00\",\"name\":0}]]") ≡ Err Shape

-- one of them unknown
abbrev pub OneUnknownKey : Type 0
OneUnknownKey = session_line_read (codes "[\"op\",1,[\"set\",\"s\",\"v\",{\"bytes\":\"00\",\"nam\":0}]]") ≡ Err Name

-- an unknown key comes before a missing one
abbrev pub UnknownKeyFirst : Type 0
UnknownKeyFirst = scene_line_read (codes "{\"other\":0}") ≡ Err Name

-- a missing key
abbrev pub MissingKey : Type 0
MissingKey = scene_line_read (codes "{\"nodes\":[]}") ≡ Err Shape

-- known keys are judged in the order of the table
abbrev pub KeysInTheirOrder : Type 0
KeysInTheirOrder = scene_line_read (codes "{\"scenes\":0,\"nodes\":[{\"path\":\"\\u0000\"}]}") ≡ Err Range

-- a node of two kinds is judged before either is read
abbrev pub SpawnerAndSynchronizer : Type 0
SpawnerAndSynchronizer = scene_line_read (codes "{\"nodes\":[{\"path\":\"a\",\"spawner\":{\"x\":0},\"sync\":0}],\"scenes\":[]}") ≡ Err Shape

-- and after its methods
abbrev pub MethodsBeforeKinds : Type 0
MethodsBeforeKinds = scene_line_read (codes "{\"nodes\":[{\"path\":\"a\",\"methods\":[{\"x\":0}],\"spawner\":0,\"sync\":0}],\"scenes\":[]}") ≡ Err Name

-- a key that may be missing may not be null
abbrev pub NullIsNoDefault : Type 0
NullIsNoDefault = scene_line_read (codes "{\"nodes\":[{\"path\":\"a\",\"auth\":null}],\"scenes\":[]}") ≡ Err Shape

-- a scene is read whole before it is judged
abbrev pub ReadBeforeValid : Type 0
ReadBeforeValid = scene_line_read (codes "{\"nodes\":[{\"path\":\"a/b\"}],\"scenes\":[5]}") ≡ Err Shape

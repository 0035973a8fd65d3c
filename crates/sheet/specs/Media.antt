-- What the media of a sheet says.
use Rattle.std.specs.Prelude.{Bool, true, false}
use Rattle.sheet.specs.declared.names.MediaType.{MediaType}
use Rattle.sheet.specs.declared.names.MediaType.TheVariants.{JavaScript, Jsx, Mjs, Cjs, TypeScript, Mts, Cts, Dts, Dmts, Dcts, Tsx}

-- JavaScript sheets are 0 to 3
abbrev pub is_java_script : MediaType → Bool
is_java_script JavaScript = true
is_java_script Jsx = true
is_java_script Mjs = true
is_java_script Cjs = true
is_java_script TypeScript = false
is_java_script Mts = false
is_java_script Cts = false
is_java_script Dts = false
is_java_script Dmts = false
is_java_script Dcts = false
is_java_script Tsx = false

-- the media that have JSX
abbrev pub is_jsx : MediaType → Bool
is_jsx JavaScript = false
is_jsx Jsx = true
is_jsx Mjs = false
is_jsx Cjs = false
is_jsx TypeScript = false
is_jsx Mts = false
is_jsx Cts = false
is_jsx Dts = false
is_jsx Dmts = false
is_jsx Dcts = false
is_jsx Tsx = true

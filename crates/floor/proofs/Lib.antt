mod Floors
